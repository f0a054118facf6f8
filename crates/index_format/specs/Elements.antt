-- Elements of a string of bits: what is taken and the bits after it, or the first flaw.
use Rattle.std.specs.Prelude.{ℕ, Bool, List, Result, Ok, Err}
use Rattle.bit_stream.specs.declared.fault.BitFault.{BitFault}
use Rattle.bit_stream.specs.declared.fault.BitFault.TheVariants as bit_fault
use Rattle.bit_stream.specs.Numbers.{TakenBits, low_in, number_in}
use Rattle.track_types.specs.declared.flaw.Flaw.{Flaw}
use Rattle.track_types.specs.declared.flaw.Kind.{Kind}
use Rattle.track_types.specs.declared.flaw.Kind.TheVariants as kind

-- what is taken from the front, and the bits after it; or a flaw
abbrev pub Element : Type 0 → Type 0
Element A = Result (A × List Bool) Flaw

-- the kind of flaw that a fault of bits is in an index
abbrev pub kind_of_fault : BitFault → Kind
kind_of_fault bit_fault.Short = kind.Short
kind_of_fault bit_fault.Large = kind.Large

-- a fault of bits is a flaw of the element
abbrev pub at_place : (Kind → Flaw) → TakenBits ℕ → Element ℕ
at_place flaw (Ok taken) = Ok taken
at_place flaw (Err fault) = Err (flaw (kind_of_fault fault))

-- a number that says itself how long it is
unfoldable pub told_at : (Kind → Flaw) → List Bool → Element ℕ
told_at flaw bits = at_place flaw (number_in bits)

-- a number of so many bits
unfoldable pub wide_at : (Kind → Flaw) → ℕ → List Bool → Element ℕ
wide_at flaw width bits = at_place flaw (low_in width bits)
