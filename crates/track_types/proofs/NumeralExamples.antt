-- What words are as whole numbers, run on words at the edges.
use Rattle.std.proofs.Common.{◌≡◌, [], ◌∷◌, map, Ok, Err, pos, negsuc, codes, refl}
use Rattle.track_types.specs.Bounds.{number_within}
use Rattle.track_types.specs.declared.bounds.NumberFault.TheVariants.{NotNumber, Range}
use Rattle.track_types.specs.Numeral.{numeral_of}
use Rattle.track_types.specs.declared.numeral.Numeral.TheVariants.{Value, Large, Not}

numeral_plain : numeral_of (codes "7") ≡ Value (pos 7)
numeral_plain = refl

numeral_with_blanks : numeral_of (codes " \t+007 ") ≡ Value (pos 7)
numeral_with_blanks = refl

numeral_negative : numeral_of (codes "-12") ≡ Value (negsuc 11)
numeral_negative = refl

numeral_greatest : numeral_of (codes "4611686018427387904") ≡ Value (pos 4611686018427387904)
numeral_greatest = refl

numeral_too_great : numeral_of (codes "4611686018427387905") ≡ Large
numeral_too_great = refl

numeral_too_low : numeral_of (codes "-99999999999999999999999999") ≡ Large
numeral_too_low = refl

numeral_empty : numeral_of [] ≡ Not
numeral_empty = refl

numeral_sign_alone : numeral_of (codes " - ") ≡ Not
numeral_sign_alone = refl

numeral_two_signs : numeral_of (codes "+-1") ≡ Not
numeral_two_signs = refl

numeral_blank_inside : numeral_of (codes "1 2") ≡ Not
numeral_blank_inside = refl

numeral_blank_behind_sign : numeral_of (codes "- 1") ≡ Not
numeral_blank_behind_sign = refl

-- within two bounds, of which both count
within_bounds : map (number_within (negsuc 1) (pos 5)) (codes "-2" ∷ codes " +05" ∷ codes "6" ∷ codes "-3" ∷ codes "4611686018427387905" ∷ codes "5." ∷ [] ∷ [])
    ≡ Ok (negsuc 1) ∷ Ok (pos 5) ∷ Err Range ∷ Err Range ∷ Err Range ∷ Err NotNumber ∷ Err NotNumber ∷ []
within_bounds = refl

within_no_bounds : number_within (pos 5) (pos 4) (codes "5") ≡ Err Range
within_no_bounds = refl
