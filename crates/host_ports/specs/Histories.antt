-- What a history gained.
use Rattle.std.specs.Prelude.{◌≡◌, ℕ, Bool, List, ◌++◌, take, Ok, Err, Result}
use Rattle.history.specs.Loads.{Load, is_end, with_piece}

-- a history grew by these bytes
abbrev pub Gains : List ℕ → List ℕ → List ℕ → Type 0
Gains before now bytes = now ≡ before ++ bytes

-- whether a source ended, after a read into this buffer: where it gave no byte; a failure changes nothing
abbrev pub ended_after : {E : Type 0} → Result ℕ E → List ℕ → Bool → Bool
ended_after (Ok n) buf ended = is_end (take n buf)
ended_after (Err fault) buf ended = ended

-- the loads after a read into this buffer: one piece more came of the newest; a failure changes nothing
abbrev pub loads_after : {E : Type 0} → Result ℕ E → List ℕ → List Load → List Load
loads_after (Ok n) buf loads = with_piece loads (take n buf)
loads_after (Err fault) buf loads = loads
