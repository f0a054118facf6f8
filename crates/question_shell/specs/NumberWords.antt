-- Number words of a line, in their ranges.
use Rattle.std.specs.Prelude.{ℕ, ◌+◌, ◌-◌, ◌^◌, List, [], ◌∷◌, ℤ, pos, neg_ℤ, Option, Some, None, Result, Ok, Err}
use Rattle.std.specs.Prelude.{slice_index_or}
use Rattle.track_types.specs.Bounds.{number_within}
use Rattle.track_types.specs.Numeral.{numeral_of}
use Rattle.track_types.specs.declared.bounds.NumberFault.{NumberFault}
use Rattle.track_types.specs.declared.bounds.NumberFault.TheVariants.{NotNumber, Range}
use Rattle.track_types.specs.declared.limit.TheConstants.{MAX_ASKED, MAX_REACH}
use Rattle.track_types.specs.declared.numeral.Numeral.{Numeral}
use Rattle.track_types.specs.declared.numeral.Numeral.TheVariants.{Value, Large, Not}
use Rattle.question_shell.specs.declared.bad.Bad.{Bad}
use Rattle.question_shell.specs.declared.bad.Bad.TheVariants as bad

-- a number word, by its bounds, both counted
abbrev pub NumberWord : Type 0
NumberWord = ℤ × ℤ

-- an object's number, or a count
abbrev pub object_word : NumberWord
object_word = (pos 0, pos (2 ^ 32 - 1))

-- an instant or a coordinate
abbrev pub place_word : NumberWord
place_word = (neg_ℤ (pos MAX_ASKED), pos MAX_ASKED)

-- a radius or a distance
abbrev pub radius_word : NumberWord
radius_word = (pos 0, pos MAX_REACH)

-- a slot
abbrev pub slot_word : NumberWord
slot_word = (pos 0, pos 15)

-- how many shapes
abbrev pub shapes_word : NumberWord
shapes_word = (pos 1, pos 16)

-- a number by its word's place among a question's words after its first, counted from 0; 0 where there is none
abbrev pub nth_number : List ℤ → ℕ → ℤ
nth_number numbers place = slice_index_or numbers place (pos 0)

-- what a number's fault makes of its line, where the number stands at that place
abbrev pub number_fault : ℕ → Result ℤ NumberFault → Option Bad
number_fault place (Ok number) = None
number_fault place (Err NotNumber) = Some (bad.Number place)
number_fault place (Err Range) = Some (bad.Range place)

-- what is wrong with a number word at a place, if anything
abbrev pub word_fault : NumberWord → ℕ → List ℕ → Option Bad
word_fault bounds place text = number_fault place (number_within bounds.0 bounds.1 text)

-- the first of two faults
abbrev pub fault_or : Option Bad → Option Bad → Option Bad
fault_or (Some fault) other = Some fault
fault_or None other = other

-- the first fault of the words from the left; the first of them stands so many words after that place of the line
abbrev pub fault_after : List NumberWord → ℕ → ℕ → List (List ℕ) → Option Bad
fault_after [] place after words = None
fault_after (wanted ∷ more) place after [] = None
fault_after (wanted ∷ more) place after (word ∷ words) =
    fault_or (word_fault wanted (place + after) word) (fault_after more place (after + 1) words)

-- the first fault of the number words after a name that stands at that place of the line
abbrev pub first_fault : List NumberWord → ℕ → List (List ℕ) → Option Bad
first_fault wanted place words = fault_after wanted place 1 words

-- the value of a numeral, 0 where it has none
abbrev pub value_of : Numeral → ℤ
value_of (Value value) = value
value_of Large = pos 0
value_of Not = pos 0

-- the number that a word is
abbrev pub word_number : List ℕ → ℤ
word_number text = value_of (numeral_of text)

-- the numbers that words are
abbrev pub numbers_of : List NumberWord → List (List ℕ) → List ℤ
numbers_of [] words = []
numbers_of (wanted ∷ more) [] = []
numbers_of (wanted ∷ more) (word ∷ words) = word_number word ∷ numbers_of more words
