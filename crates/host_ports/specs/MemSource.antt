-- What a source in memory does.
use Rattle.std.specs.Prelude.{ℕ, ◌+◌, min, Bool, false, if◌then◌else◌, List, [], ◌++◌, length, take, drop}
use Rattle.history.specs.Loads.{is_end}
use Rattle.host_ports.specs.NumberedCalls.{Calls, no_calls, fails_next, counted}

-- the bytes that are still to come, those that came, whether it ended, how many came, the most of a call, and the calls
pub record MemSourceView : Type 0 where
  pub rest : List ℕ
  pub came : List ℕ
  pub ended : Bool
  pub taken : ℕ
  pub piece : ℕ
  pub calls : Calls

-- a source before any of its bytes came
abbrev pub new_source : List ℕ → ℕ → List ℕ → MemSourceView
new_source bytes piece fails =
    record { rest = bytes; came = []; ended = false; taken = 0; piece = piece; calls = no_calls fails }

-- how many bytes the next call gives to a buffer with that much room
abbrev pub next_count : MemSourceView → ℕ → ℕ
next_count source room = if fails_next source.calls then 0 else min (min room source.piece) (length source.rest)

-- the source after the next call
abbrev pub after_listen : MemSourceView → ℕ → MemSourceView
after_listen source room =
    let count = next_count source room in
    record source {
      rest = drop count source.rest;
      came = source.came ++ take count source.rest;
      ended = if fails_next source.calls then source.ended else is_end (take count source.rest);
      taken = source.taken + count;
      calls = counted source.calls (fails_next source.calls);
    }

-- a source that never fails: the bytes that are still to come, those that came, whether it ended, and how many came
pub record CalmSourceView : Type 0 where
  pub rest : List ℕ
  pub came : List ℕ
  pub ended : Bool
  pub taken : ℕ

-- the source after so many bytes more came
abbrev pub after_bytes : CalmSourceView → ℕ → CalmSourceView
after_bytes source count = record {
  rest = drop count source.rest;
  came = source.came ++ take count source.rest;
  ended = is_end (take count source.rest);
  taken = source.taken + count;
}
