-- A word of digits alone: it has no blanks at its ends and no sign.
use Rattle.std.proofs.Common.{◌≡◌, true, false, ℕ, List, [], ◌∷◌, reverse, pos, ◌≤◌, ◌^◌, refl, arith, ℤ, Option, None, Some, IfSome}
use Rattle.std.proofs.lemmas.Bool.{and_parts}
use Rattle.std.proofs.lemmas.Bool.Decides.{nat_tests}
use Rattle.std.proofs.lemmas.List.{reverse-append, reverse-reverse}
use Rattle.std.proofs.lemmas.List.Folds.{list_all-append}
use Rattle.std.specs.List.{list_all}
use Rattle.track_types.specs.Numeral.{is_blank, is_decimal, is_digit, magnitude_of, numeral_of, signed_of, trimmed, unblanked_of, without_blanks_before}
use Rattle.track_types.specs.declared.numeral.Numeral.TheVariants.{Value}

without_blanks_before-digits : (word : List ℕ) → list_all is_digit word ≡ true → without_blanks_before word ≡ word
without_blanks_before-digits [] is = refl
without_blanks_before-digits (byte ∷ rest) is =
    let digit = (and_parts (is_digit byte) (list_all is_digit rest) is).0 in
    let solid : is_blank byte ≡ false = grind (arith, nat_tests, digit) in
    rw solid refl

list_all-reverse : (word : List ℕ) → list_all is_digit word ≡ true → list_all is_digit (reverse word) ≡ true
list_all-reverse [] is = refl
list_all-reverse (byte ∷ rest) is =
    let parts = and_parts (is_digit byte) (list_all is_digit rest) is in
    rw (reverse-append (byte ∷ []) rest, list_all-append is_digit (reverse rest) (byte ∷ []), list_all-reverse rest parts.1, parts.0) refl

trimmed-digits : (word : List ℕ) → list_all is_digit word ≡ true → trimmed word ≡ word
trimmed-digits word is =
    rw (without_blanks_before-digits word is, without_blanks_before-digits (reverse word) (list_all-reverse word is)) (reverse-reverse word)

unblanked_of-digits : (word : List ℕ) → is_decimal word ≡ true → unblanked_of word ≡ signed_of false word
unblanked_of-digits [] is = grind arith
unblanked_of-digits (byte ∷ rest) is = grind (arith, nat_tests, is)

numeral_of-digits : (word : List ℕ) → is_decimal word ≡ true → magnitude_of word ≤ 2 ^ 62 → numeral_of word ≡ Value (pos (magnitude_of word))
numeral_of-digits word is within =
    let all = (and_parts _ (list_all is_digit word) is).1 in
    rw (trimmed-digits word all, unblanked_of-digits word is, is) (grind (arith, nat_tests, within))

-- a word of digits alone is what they mean, where that was found
pub numeral_of-found : (word : List ℕ) (found : Option ℤ) → IfSome found (λ _. is_decimal word ≡ true) →
    IfSome found (λ value. (value ≡ pos (magnitude_of word)) × (magnitude_of word ≤ 2 ^ 62)) →
    IfSome found (λ value. numeral_of word ≡ Value value)
numeral_of-found word None decimal within = tt
numeral_of-found word (Some value) decimal within = rw within.0 (numeral_of-digits word decimal within.1)
