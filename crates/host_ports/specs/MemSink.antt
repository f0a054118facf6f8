-- What a sink in memory does.
use Rattle.std.specs.Prelude.{ℕ, ◌-◌, min, Bool, nat_lt, ◌||◌, if◌then◌else◌, List, [], ◌++◌, length, take}
use Rattle.host_ports.specs.NumberedCalls.{Calls, no_calls, fails_next, counted}

-- the bytes that were said, how many have room in all, and the calls
pub record MemSinkView : Type 0 where
  pub said : List ℕ
  pub room : ℕ
  pub calls : Calls

-- a sink to which nothing was said
abbrev pub new_sink : ℕ → List ℕ → MemSinkView
new_sink room fails = record { said = []; room = room; calls = no_calls fails }

-- whether the next call is cut: by its number, or for want of room
abbrev pub is_cut : MemSinkView → List ℕ → Bool
is_cut sink piece = fails_next sink.calls || nat_lt (sink.room - length sink.said) (length piece)

-- how many bytes of the piece the next call says
abbrev pub sent_count : MemSinkView → List ℕ → ℕ
sent_count sink piece = if fails_next sink.calls then 0 else min (length piece) (sink.room - length sink.said)

-- the sink after the next call
abbrev pub after_say : MemSinkView → List ℕ → MemSinkView
after_say sink piece =
    record sink {
      said = sink.said ++ take (sent_count sink piece) piece;
      calls = counted sink.calls (is_cut sink piece);
    }
