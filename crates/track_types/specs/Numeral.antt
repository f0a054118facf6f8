-- What a word is as a whole number.
use Rattle.std.specs.Prelude.{ℕ, ◌+◌, ◌-◌, ◌*◌, ◌^◌, Bool, true, false, ◌&&◌, ◌||◌, ◌==◌, nat_lt, nat_le, if◌then◌else◌, List, [], ◌∷◌, length, reverse, pos, neg_ℤ}
use Rattle.std.specs.List.{list_all}
use Rattle.track_types.specs.declared.numeral.Numeral.{Numeral}
use Rattle.track_types.specs.declared.numeral.Numeral.TheVariants.{Value, Large, Not}

-- a space or a tab
abbrev pub is_blank : ℕ → Bool
is_blank byte = (byte == 32) || (byte == 9)

-- the word from its first byte that is no blank
abbrev pub without_blanks_before : List ℕ → List ℕ
without_blanks_before [] = []
without_blanks_before (byte ∷ rest) = if is_blank byte then without_blanks_before rest else byte ∷ rest

-- the word up to its last byte that is no blank
abbrev pub without_blanks_behind : List ℕ → List ℕ
without_blanks_behind word = reverse (without_blanks_before (reverse word))

-- the word without the blanks at its two ends
abbrev pub trimmed : List ℕ → List ℕ
trimmed word = without_blanks_behind (without_blanks_before word)

-- a decimal digit
abbrev pub is_digit : ℕ → Bool
is_digit byte = nat_le 48 byte && nat_le byte 57

-- at least one digit, and nothing but digits
abbrev pub is_decimal : List ℕ → Bool
is_decimal word = nat_lt 0 (length word) && list_all is_digit word

-- what digits mean: each counts ten times the next
abbrev pub magnitude_of : List ℕ → ℕ
magnitude_of [] = 0
magnitude_of (digit ∷ rest) = (digit - 48) * 10 ^ length rest + magnitude_of rest

-- a magnitude with its sign, where it is at most 2^62
abbrev pub signed_value : Bool → ℕ → Numeral
signed_value is_negative magnitude =
    if nat_le magnitude (2 ^ 62) then Value (if is_negative then neg_ℤ (pos magnitude) else pos magnitude) else Large

-- digits after a sign
abbrev pub signed_of : Bool → List ℕ → Numeral
signed_of is_negative digits = if is_decimal digits then signed_value is_negative (magnitude_of digits) else Not

-- a word without blanks at its ends: digits, after one sign or none; `-` is 45 and `+` is 43
abbrev pub unblanked_of : List ℕ → Numeral
unblanked_of [] = Not
unblanked_of (byte ∷ rest) =
    if byte == 45 then signed_of true rest else if byte == 43 then signed_of false rest else signed_of false (byte ∷ rest)

-- what a word is as a whole number
abbrev pub numeral_of : List ℕ → Numeral
numeral_of word = unblanked_of (trimmed word)
