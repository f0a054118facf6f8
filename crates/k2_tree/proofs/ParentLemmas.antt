-- From a square to its parent, by the place of its one; and the squares' numbers.
use Rattle.std.proofs.Common.{◌≡◌, ℕ, ◌+◌, ◌*◌, ◌/◌, ◌%◌, ◌<◌, Bool, true, false}
use Rattle.std.proofs.Common.{List, [], ◌∷◌, ◌++◌, refl, sym, ap, ◌∙◌, arith, Some}
use Rattle.std.proofs.Math.Nat.{mod-lt, div-add-mod}
use Rattle.std.proofs.lemmas.Bool.{eqb-true}
use Rattle.std.proofs.lemmas.List.{get_or_default}
use Rattle.std.proofs.lemmas.List.Folds.{Any-from_list_any}
use Rattle.std.proofs.lemmas.Option.{slice_get-get_or}
use Rattle.std.specs.Prelude.{◌==◌}
use Rattle.bit_rank.specs.Bits.{IsSelected}
use Rattle.k2_tree.specs.Widths.{digits_in, fan_of}
use Rattle.k2_tree.specs.TreeBits.{is_in, prefixes, Rises, morton_bits, AreCodes}
use Rattle.k2_tree.specs.Squares.{squares_above, bits_above, IsSquare}
use Rattle.k2_tree.proofs.RisingLemmas.{by_place, same_place}
use Rattle.k2_tree.proofs.PrefixLemmas.{prefixes-rise, fan_pos}
use Rattle.k2_tree.proofs.LongerLemmas.{prefixes-shorter}
use Rattle.k2_tree.proofs.ChildLemmas.{child_place, child_bit, child_square}

-- a square has one number
pub same_number : {above below codes : List ℕ} {q i j : ℕ} → Rises 0 codes
    → IsSquare above below codes q i → IsSquare above below codes q j → i ≡ j
same_number {above} {below} {codes} up a b =
    let ps : List ℕ = prefixes (digits_in below) codes in
    let places = same_place a.place b.place ps (prefixes-rise (digits_in below) codes up) a.within b.within
    (a.stands ∙ sym b.stands) in
    omega (arith, a.counted, b.counted, places)

-- the one of a square's number stands in its parent's bits
pub record IsBelow (above ws codes : List ℕ) (w q j : ℕ) (bits : List Bool) : Type 0 where
  pub parent : ℕ
  pub square : IsSquare above (w ∷ ws) codes (q / fan_of w) parent
  pub selected : IsSelected bits j (bits_above above (w + digits_in ws) codes + fan_of w * square.place + q % fan_of w)

pub parent_square : {above ws codes : List ℕ} {w q j : ℕ} {bits : List Bool}
    → AreCodes (digits_in (above ++ w ∷ ws)) codes → bits ≡ morton_bits (above ++ w ∷ ws) codes
    → IsSquare (above ++ w ∷ []) ws codes q j → IsBelow above ws codes w q j bits
unfolding digits_in
parent_square {above} {ws} {codes} {w} {q} {j} {bits} are exact square =
    let n : ℕ = digits_in ws in
    let k : ℕ = fan_of w in
    let here : is_in (prefixes n codes) q ≡ true =
    by_place (prefixes n codes) square.place q square.within square.stands in
    let over = Any-from_list_any (λ x. x == q / k) (prefixes (w + n) codes) (prefixes-shorter w n codes q here) in
    let up : IsSquare above (w ∷ ws) codes (q / k) (squares_above above (w + n) codes + over.0) =
    record {
      place = over.0;
      within = over.2;
      stands = get_or_default (prefixes (w + n) codes) over.0 0 over.1 over.2 ∙ over.3 ∙ eqb-true over.1 (q / k) over.4;
      counted = refl;
    } in
    let whole : k * (q / k) + q % k ≡ q = div-add-mod q k in
    let small : q % k < k = mod-lt q (fan_pos w) in
    let there : is_in (prefixes n codes) (k * (q / k) + q % k) ≡ true = ap (is_in (prefixes n codes)) whole ∙ here in
    let place : ℕ = bits_above above (w + n) codes + k * over.0 + q % k in
    let child = child_square are exact up (q % k) small there in
    record {
      parent = squares_above above (w + n) codes + over.0;
      square = up;
      selected = record {
        one = slice_get-get_or bits place false (child_place are exact up (q % k) small)
            ∙ ap Some (child_bit are exact up (q % k) small ∙ there);
        rank = same_number are.rising (rw whole at child) square;
      };
    }
