-- What a call of the program leaves of the real devices.
use Rattle.std.specs.Prelude.{◌≡◌, ◌≢◌, ◌↔◌, ℕ, ◌+◌, ◌≤◌, List, None}
use denote.Ref.{Bor}
use Rattle.host_ports.specs.Device.{DiskView, ReaderView, WriterView}
use Rattle.host_ports.specs.Faults.{Rose}
use Rattle.host_ports.specs.FilesState.{state_of}
use Rattle.host_ports.specs.Histories.{Gains}
use Rattle.track_types.specs.Limits.{limit_of}
use Rattle.track_types.specs.declared.limit.LimitKind.TheVariants as limit
use Rattle.gract_top.specs.Ends.{Ends, OutsideView}
use Rattle.gract_top.specs.Request.{request_of}
use Rattle.gract_top.specs.Sampling.{SaysFront}
use Rattle.gract_top.specs.declared.outcome.Outcome.{Outcome}
use Rattle.gract_top.specs.declared.outcome.Outcome.TheVariants as outcome
use Rattle.gract_top.specs.declared.request.Request.TheVariants as request

-- The files on disk, standard input and standard output, as their adapters' histories have them.
pub record Devices : Type 0 where
  pub files : DiskView
  pub source : ReaderView
  pub sink : WriterView

-- files, standard input and standard output, put together
abbrev pub devices : DiskView → ReaderView → WriterView → Devices
devices files source sink = record { files = files; source = source; sink = sink }

-- What `gract` says its end by, of these devices after so many reads of an index: what was loaded and saved, what came
-- and what was said. What is still to come and what files hold are not told, and a pass gives what it is handed.
abbrev pub outside : Devices → ℕ → OutsideView
outside here steps =
    record {
      files = state_of None None here.files.loads here.files.counts.taken here.files.counts.faults here.files.save_faults
          here.files.saves here.files.begins here.files.saved;
      given = λ bytes. bytes;
      talk = record {
        rest = None;
        came = here.source.came;
        ended = here.source.ended;
        taken = here.source.counts.taken;
        said = here.sink.said;
        steps = steps;
      };
    }

-- A call ended as `gract` does over these devices, after some count of reads of an index.
pub record Runs (words : List (Bor (List ℕ))) (result : Outcome) (before now : Devices) : Type 0 where
  pub reads : ℕ
  -- the words have no form if and only if the outcome says so, and then nothing was done
  pub words_fault : (place : ℕ) → (result ≡ outcome.Words place) ↔ (request_of words ≡ request.Refused place)
  pub untouched : (place : ℕ) → result ≡ outcome.Words place → now ≡ before
  -- else what was loaded, saved, said and listened to is what the request asks for
  pub ends : Ends (request_of words) result (now.source ≡ before.source) (now.sink ≡ before.sink)
      (outside before 0) (outside now reads)
  -- only the device that the outcome names counted a fault
  pub load_untouched : result ≢ outcome.LoadFailed → now.files.counts.faults ≡ before.files.counts.faults
  pub save_cause : result ≡ outcome.SaveFailed → Rose before.files.save_faults now.files.save_faults
  pub save_untouched : result ≢ outcome.SaveFailed → now.files.save_faults ≡ before.files.save_faults
  pub listen_cause : result ≡ outcome.ListenFailed → Rose before.source.counts.faults now.source.counts.faults
  pub listen_untouched : result ≢ outcome.ListenFailed → now.source.counts.faults ≡ before.source.counts.faults
  pub say_cause : result ≡ outcome.SayFailed → Rose before.sink.faults now.sink.faults
  pub say_untouched : result ≢ outcome.SayFailed → now.sink.faults ≡ before.sink.faults
  -- of the questions at most one byte beyond their limit is asked for
  pub within : now.source.counts.taken ≤ before.source.counts.taken + (limit_of limit.Questions + 1)

-- A text was said, or a front of it where saying failed.
abbrev pub TellsText : Outcome → List ℕ → List ℕ → List ℕ → Type 0
TellsText outcome.Done text before now = Gains before now text
TellsText outcome.SayFailed text before now = SaysFront before now text
TellsText other text before now = ⊥

-- A count of faults rose where saying failed, and is what it was where the text was said.
abbrev pub CountsText : Outcome → ℕ → ℕ → Type 0
CountsText outcome.Done before now = now ≡ before
CountsText outcome.SayFailed before now = Rose before now
CountsText other before now = ⊥

-- A text was said, or a front of it where saying failed, and nothing else was done.
pub record SaysText (result : Outcome) (text : List ℕ) (before now : Devices) : Type 0 where
  pub told : TellsText result text before.sink.said now.sink.said
  pub count : CountsText result before.sink.faults now.sink.faults
  pub files : now.files ≡ before.files
  pub source : now.source ≡ before.source
