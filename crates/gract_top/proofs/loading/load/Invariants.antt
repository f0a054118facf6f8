use Rattle.std.proofs.Common.{◌≡◌, ◌+◌, ◌-◌, ◌≤◌, ℕ, true, false, List, ◌∷◌, length}
use Rattle.std.specs.Io.KnownBytes.{prepend_known}
use Rattle.host_ports.specs.FileMap.{IsOpened}
use Rattle.host_ports.specs.NumberedCalls.{one_more}
use Rattle.gract_top.proofs.loading.load.Given as goal

abbrev pub invariant-pieces : goal.invariant-pieces
invariant-pieces g l = record {
  bytes : List ℕ;
  received : g.R.Receiver.has_taken l.fn.receiver bytes l.receiver;
  counted : l.count ≡ length bytes;
  loads : g.F.Files.loads l.files
      ≡ record { name = l.name; begun = true; bytes = bytes; ended = false } ∷ g.F.Files.loads l.fn.files;
  saved : g.F.Files.saved l.files ≡ g.F.Files.saved l.fn.files;
  taken : g.F.Files.taken l.files ≡ l.count;
  within : l.count ≤ l.limit;
  map : g.F.Files.map l.files ≡ g.F.Files.map l.fn.files;
  faults : g.F.Files.load_faults l.files ≡ g.F.Files.load_faults l.fn.files;
  begins : g.F.Files.begins l.files ≡ one_more (g.F.Files.begins l.fn.files);
  saves : g.F.Files.saves l.files ≡ g.F.Files.saves l.fn.files;
  save_faults : g.F.Files.save_faults l.files ≡ g.F.Files.save_faults l.fn.files;
  given : g.F.Files.given l.files ≡ g.F.Files.given l.fn.files;
  opened : IsOpened (g.F.Files.map l.fn.files) l.name (prepend_known bytes (g.F.Files.rest l.files));
}

abbrev pub decreases-pieces : goal.decreases-pieces
decreases-pieces g l = l.limit + 1 - l.count
