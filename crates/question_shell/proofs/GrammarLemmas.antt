-- Number words, one after another.
use Rattle.std.proofs.Common.{◌≡◌, ℕ, ℤ, List, Ok, arith}
use Rattle.track_types.specs.Bounds.{number_within, value_within}
use Rattle.track_types.specs.Numeral.{numeral_of}
use Rattle.track_types.specs.declared.numeral.Numeral.{Numeral}
use Rattle.track_types.specs.declared.numeral.Numeral.TheVariants.{Value, Large, Not}
use Rattle.question_shell.specs.NumberWords.{value_of}

-- a word that is a number within its bounds is a numeral with that value
pub value_of-within : (least greatest : ℤ) (word : List ℕ) (number : ℤ) →
    number_within least greatest word ≡ Ok number → number ≡ value_of (numeral_of word)
value_of-within least greatest word number within = by_numeral (numeral_of word) within
  where
    by_numeral : (numeral : Numeral) → value_within least greatest numeral ≡ Ok number →
        number ≡ value_of numeral
    by_numeral (Value value) within = grind (arith, within)
    by_numeral Large within = cc
    by_numeral Not within = cc
