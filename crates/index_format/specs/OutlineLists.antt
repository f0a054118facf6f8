-- Ascending lists by their gaps: each number is told as how far it is above the least that may follow.
use Rattle.std.specs.Prelude.{ℕ, suc, ◌+◌, ◌-◌, ◌^◌, nat_le, Bool, List, [], ◌∷◌, length, slice_index, Ok, Err, ◌==◌, if◌then◌else◌}
use Rattle.std.specs.List.{flat_map}
use Rattle.bit_stream.specs.Numbers.{number_bits}
use Rattle.rule_store.specs.Flaws.{leads_out}
use Rattle.track_types.specs.declared.flaw.Kind.TheVariants.{Field, Code}
use Rattle.track_types.specs.declared.flaw.Section.TheVariants.{Objects, Alphabet}
use Rattle.index_format.specs.Fields.{◌>>=◌, flaw_at}
use Rattle.index_format.specs.Elements.{Element, told_at}

-- the least number that may follow these: 0, or the last one and 1
abbrev pub least_after : List ℕ → ℕ
least_after seen = if length seen == 0 then 0 else (slice_index seen (length seen - 1) + 1)

-- an object, of four bytes
unfoldable pub object_in : List ℕ → List Bool → Element ℕ
object_in seen bits = do
  gap ← told_at (flaw_at Objects 0 (length seen)) bits
  if nat_le (least_after seen + gap.0) (2 ^ 32 - 1) then Ok (least_after seen + gap.0, gap.1)
      else Err (flaw_at Objects 0 (length seen) Field)

-- a value of the alphabet, which leads to some cell of a grid of this height
unfoldable pub value_in : ℕ → List ℕ → List Bool → Element ℕ
value_in height seen bits = do
  gap ← told_at (flaw_at Alphabet 0 (length seen)) bits
  if leads_out height (least_after seen + gap.0) then Err (flaw_at Alphabet 0 (length seen) Code)
      else Ok (least_after seen + gap.0, gap.1)

-- how far each number is above the least that may stand there
unfoldable pub gaps_from : ℕ → List ℕ → List ℕ
gaps_from least [] = []
gaps_from least (number ∷ numbers) = (number - least) ∷ gaps_from (suc number) numbers

-- the bits of numbers that say themselves how long they are
unfoldable pub told_bits : List ℕ → List Bool
told_bits numbers = flat_map number_bits numbers

-- an ascending list
unfoldable pub gap_bits : List ℕ → List Bool
gap_bits numbers = told_bits (gaps_from 0 numbers)
