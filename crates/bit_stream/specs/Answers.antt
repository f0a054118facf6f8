-- What a read answers.
use Rattle.std.specs.Prelude.{◌≡◌, ℕ, Bool, List, Result, Ok, Err}
use Rattle.bit_stream.specs.declared.fault.BitFault.{BitFault}
use Rattle.bit_stream.specs.Numbers.{TakenBits}

-- the number and the bits that are left are those that the reading gives, or the fault is
abbrev pub Takes : Result ℕ BitFault → List Bool → TakenBits ℕ → Type 0
Takes (Ok value) left reading = reading ≡ Ok (value, left)
Takes (Err fault) left reading = reading ≡ Err fault
