-- Bits that are counted one after another.
use Rattle.std.proofs.Common.{◌≡◌, ℕ, ◌+◌, ◌<◌, ◌≤◌, Bool, true, false, List, [], ◌∷◌, get_or}
use Rattle.std.proofs.Common.{length, take, Some, ap, ◌∙◌, arith}
use Rattle.std.specs.Prelude.{slice_get}
use mir.Val.{bool_byte}
use Rattle.std.proofs.lemmas.List.{take_more}
use Rattle.std.proofs.lemmas.Option.{get_or_from_slice_get}
use Rattle.packed_bits.specs.Bits.{ones_of}
use Rattle.packed_bits.proofs.OnesLemmas.{ones_of-append, ones_of-cons, ones_of-nil}

-- a bit as a number is at most one
pub bool_byte-small : (bit : Bool) → bool_byte bit ≤ 1
bool_byte-small true = omega arith
bool_byte-small false = omega arith

-- one bit by itself
ones_of-single : (bit : Bool) → ones_of (bit ∷ []) ≡ bool_byte bit
ones_of-single true = omega (arith, ones_of-cons true [], ones_of-nil)
ones_of-single false = omega (arith, ones_of-cons false [], ones_of-nil)

-- one bit more
pub ones_of-take_more : (bits : List Bool) (place : ℕ) (bit : Bool) → place < length bits
    → slice_get bits place ≡ Some bit → ones_of (take (place + 1) bits) ≡ ones_of (take place bits) + bool_byte bit
ones_of-take_more bits place bit within read =
    ap ones_of (take_more bits place false within)
    ∙ ones_of-append (take place bits) (get_or bits place false ∷ [])
    ∙ ap (λ b. ones_of (take place bits) + ones_of (b ∷ [])) (get_or_from_slice_get bits place bit false read)
    ∙ ap (λ n. ones_of (take place bits) + n) (ones_of-single bit)
