use Rattle.std.proofs.Common.{◌≡◌, ◌<◌, length, true, false, slice_range, get_or, ◌∙◌, refl}
use Rattle.std.specs.Str.{bytes_eq}
use Rattle.host_ports.specs.FileStore.{IsInStore}
use Rattle.host_ports.specs.declared.file_store.HeldFile.{HeldFile}
use Rattle.host_ports.proofs.FileStores.{file_named-take_more}
use Rattle.host_ports.proofs.file_store.newest_file.Goals as goal
use Rattle.host_ports.proofs.file_store.newest_file.Goals.{then-eq, else-eq}

-- one file more is looked at: it has the name, or what was found before stands
pub loop-place-preserved : goal.loop-place-preserved
loop-place-preserved c =
    let stored = c.args.stored.now in
    let files = c.args.files.now in
    let place = c.loop-place.place in
    let name = c.args.name.now in
    let none : HeldFile = record { start = 0; middle = 0; end = 0 } in
    let file : HeldFile = get_or files place none in
    let within : place < length files = c.loop-place-test.true in
    let step = file_named-take_more stored files place none name within in
    let inside : IsInStore stored file = c.requires place none within in
    elim c.if-eq.branch [
      | then-eq w ↦
          let same : bytes_eq (slice_range stored file.start file.middle) name ≡ true = cc in
          rw w.found-is (inside, step ∙ rw same refl)
      | else-eq w ↦
          let other : bytes_eq (slice_range stored file.start file.middle) name ≡ false = cc in
          rw (w.found-is, step, other) c.loop-place.invariant
    ]
