-- The numbers of squares that a level's bits tell: piece by piece, how many, and how great.
use Rattle.std.proofs.Common.{All, ◌≡◌, ℕ, zero, suc, ◌+◌, ◌-◌, ◌*◌, ◌^◌, ◌<◌, ◌≤◌, Bool, true, false, List, [], ◌∷◌, ◌++◌, length, get_or, drop, min, take}
use Rattle.std.proofs.Common.{refl, sym, ap, ◌∙◌, arith, inl, inr, mul-le-mul_left, pow-add, Some}
use Rattle.std.specs.Prelude.{slice_get}
use Rattle.std.specs.List.{flat_map, range_with_len}
use Rattle.std.proofs.lemmas.Bool.{cases_lt}
use Rattle.std.proofs.lemmas.Option.{get_or_from_slice_get}
use Rattle.std.proofs.lemmas.List.{append-nil, drop-drop, drop_all, drop_more, length-take, take_more}
use Rattle.std.proofs.lemmas.List.Concat.{flat_map-append}
use Rattle.std.proofs.lemmas.List.Elements.{All-cons, All-head, All-nil, All-tail}
use Rattle.std.proofs.lemmas.List.FromFn.{get_or-range_with_len, length-range_with_len}
use Rattle.list_laws.proofs.FlatLemmas.{All-flat_map}
use Rattle.list_laws.proofs.RangeLemmas.{range-parts}
use Rattle.k2_tree.proofs.LongerLemmas.{length-children_of_prefixes}
use Rattle.k2_tree.specs.Tree.{codes_below, codes_in, where_set}
use Rattle.k2_tree.specs.TreeBits.{children_of_prefixes}
use Rattle.k2_tree.specs.Widths.{fan, fan_of, levels_with}

-- the second part goes on with the bits behind those of the first
pub where_set-append : (bits : List Bool) (xs ys : List ℕ) →
    where_set bits (xs ++ ys) ≡ where_set bits xs ++ where_set (drop (length xs) bits) ys
unfolding where_set
where_set-append [] [] ys = refl
where_set-append [] (x ∷ xs) ys = refl
where_set-append (bit ∷ bits) [] ys = refl
where_set-append (true ∷ bits) (x ∷ xs) ys = ap (λ rest. x ∷ rest) (where_set-append bits xs ys)
where_set-append (false ∷ bits) (x ∷ xs) ys = where_set-append bits xs ys

-- no number
pub where_set-nil : (bits : List Bool) → where_set bits [] ≡ []
unfolding where_set
where_set-nil [] = refl
where_set-nil (bit ∷ bits) = refl

-- one number, by its bit
pub where_set-one : (bits : List Bool) (p code : ℕ) (bit : Bool) → p < length bits → get_or bits p false ≡ bit →
    where_set (drop p bits) (code ∷ []) ≡ where_set (bit ∷ []) (code ∷ [])
unfolding where_set
where_set-one bits p code true within is = rw (drop_more bits p false within, is, where_set-nil (drop (p + 1) bits)) refl
where_set-one bits p code false within is = rw (drop_more bits p false within, is, where_set-nil (drop (p + 1) bits)) refl

-- no bit
where_set-past : (xs : List ℕ) → where_set [] xs ≡ []
unfolding where_set
where_set-past xs = refl

-- the numbers of a range, one more of which is judged by its bit
pub judged-more : (bits : List Bool) (start base count : ℕ) (bit : Bool) → start + count < length bits →
    slice_get bits (start + count) ≡ Some bit →
    where_set (drop start bits) (range_with_len base (count + 1))
    ≡ where_set (drop start bits) (range_with_len base count) ++ where_set (bit ∷ []) ((base + count) ∷ [])
judged-more bits start base count bit within read =
    let long = length-range_with_len base count in
    let behind : drop (length (range_with_len base count)) (drop start bits) ≡ drop (start + count) bits =
    ap (λ n. drop n (drop start bits)) long ∙ drop-drop count start bits in
    ap (where_set (drop start bits)) (range-parts base count 1)
    ∙ where_set-append (drop start bits) (range_with_len base count) ((base + count) ∷ [])
    ∙ ap (λ rest. where_set (drop start bits) (range_with_len base count) ++ where_set rest ((base + count) ∷ [])) behind
    ∙ ap (λ back. where_set (drop start bits) (range_with_len base count) ++ back)
    (where_set-one bits (start + count) (base + count) bit within (get_or_from_slice_get bits (start + count) bit false read))

-- those behind the last bit count for nothing
pub judged-all : (bits : List Bool) (start base count size : ℕ) → start + count ≡ min (start + size) (length bits) →
    where_set (drop start bits) (range_with_len base count) ≡ where_set (drop start bits) (range_with_len base size)
judged-all bits start base count size end = elim (cases_lt count size) [
  | inr not ↦ let same : count ≡ size = omega arith in ap (λ n. where_set (drop start bits) (range_with_len base n)) same
  | inl less ↦
      let long = length-range_with_len base count in
      let past : drop (length (range_with_len base count)) (drop start bits) ≡ [] =
      ap (λ n. drop n (drop start bits)) long ∙ drop-drop count start bits ∙ drop_all (start + count) bits (omega arith) in
      let whole : count + (size - count) ≡ size = omega arith in
      sym (ap (λ n. where_set (drop start bits) (range_with_len base n)) (sym whole)
      ∙ ap (where_set (drop start bits)) (range-parts base count (size - count))
      ∙ where_set-append (drop start bits) (range_with_len base count) (range_with_len (base + count) (size - count))
      ∙ ap (λ rest. where_set (drop start bits) (range_with_len base count) ++ where_set rest (range_with_len (base + count) (size - count))) past
      ∙ ap (λ back. where_set (drop start bits) (range_with_len base count) ++ back) (where_set-past (range_with_len (base + count) (size - count)))
      ∙ append-nil (where_set (drop start bits) (range_with_len base count)))
]

-- there are no more than bits
pub length-where_set : (bits : List Bool) (xs : List ℕ) → length (where_set bits xs) ≤ length bits
unfolding where_set
length-where_set [] xs = omega arith
length-where_set (bit ∷ bits) [] = omega arith
length-where_set (true ∷ bits) (x ∷ xs) = omega (arith, length-where_set bits xs)
length-where_set (false ∷ bits) (x ∷ xs) = omega (arith, length-where_set bits xs)

-- what holds of all numbers holds of these
pub All-where_set : (P : ℕ → Type 0) (bits : List Bool) (xs : List ℕ) → All P xs → All P (where_set bits xs)
unfolding where_set
All-where_set P [] xs each = All-nil P
All-where_set P (bit ∷ bits) [] each = All-nil P
All-where_set P (true ∷ bits) (x ∷ xs) each =
    All-cons P x (where_set bits xs) (All-head P x xs each) (All-where_set P bits xs (All-tail P x xs each))
All-where_set P (false ∷ bits) (x ∷ xs) each = All-where_set P bits xs (All-tail P x xs each)

-- one prefix more
pub children-more : (size : ℕ) (prefixes : List ℕ) (prefix : ℕ) →
    children_of_prefixes size (prefixes ++ prefix ∷ [])
    ≡ children_of_prefixes size prefixes ++ range_with_len (size * prefix) size
unfolding children_of_prefixes
children-more size prefixes prefix =
    flat_map-append (λ p. range_with_len (size * p) size) prefixes (prefix ∷ [])
    ∙ ap (λ back. flat_map (λ p. range_with_len (size * p) size) prefixes ++ back) (append-nil (range_with_len (size * prefix) size))

-- children of small prefixes are small
pub small-children : (size limit : ℕ) (prefixes : List ℕ) → All (λ code. code < limit) prefixes →
    All (λ code. code < size * limit) (children_of_prefixes size prefixes)
unfolding children_of_prefixes
small-children size limit prefixes small =
    All-flat_map (λ code. code < size * limit) (λ p. range_with_len (size * p) size) prefixes (λ k d within j e inside.
    let prefix : ℕ = get_or prefixes k d in
    let low : prefix < limit = small k d within in
    let long = length-range_with_len (size * prefix) size in
    let at = get_or-range_with_len (size * prefix) size j e (omega (arith, long)) in
    let below : size * (prefix + 1) ≤ size * limit = mul-le-mul_left size (omega arith) in
    let more : size * (prefix + 1) ≡ size * prefix + size = grind arith in
    omega (arith, at, below, more, long))

-- a level more of one width, in front of others
pub levels-more : (width count : ℕ) (rest : List ℕ) → levels_with width (count + 1) ++ rest ≡ levels_with width count ++ (width ∷ rest)
unfolding levels_with
levels-more width zero rest = refl
levels-more width (suc count) rest =
    let next : suc count + 1 ≡ suc (count + 1) = omega arith in
    rw next (ap (λ widths. width ∷ widths) (levels-more width count rest))

module _ (bits : List Bool) (from size : ℕ) (prefixes : List ℕ) where
  -- the children of one prefix more
  pub told-more : (i start : ℕ) → i < length prefixes → drop start bits ≡ drop (size * i) (drop from bits) →
      where_set (drop from bits) (children_of_prefixes size (take (i + 1) prefixes))
      ≡ where_set (drop from bits) (children_of_prefixes size (take i prefixes))
      ++ where_set (drop start bits) (range_with_len (size * get_or prefixes i 0) size)
  told-more i start within behind =
      let before : List ℕ = children_of_prefixes size (take i prefixes) in
      let own : List ℕ = range_with_len (size * get_or prefixes i 0) size in
      let count : length before ≡ size * i =
      length-children_of_prefixes size (take i prefixes) ∙ ap (λ n. size * n) (omega (arith, length-take i prefixes)) in
      ap (λ all. where_set (drop from bits) (children_of_prefixes size all)) (take_more prefixes i 0 within)
      ∙ ap (where_set (drop from bits)) (children-more size (take i prefixes) (get_or prefixes i 0))
      ∙ where_set-append (drop from bits) before own
      ∙ ap (λ n. where_set (drop from bits) before ++ where_set (drop n (drop from bits)) own) count
      ∙ ap (λ rest. where_set (drop from bits) before ++ where_set rest own) (sym behind)

  -- and the bits behind these
  pub start-more : (i start end : ℕ) → drop start bits ≡ drop (size * i) (drop from bits) → end ≡ min (start + size) (length bits) →
      drop end bits ≡ drop (size * (i + 1)) (drop from bits)
  start-more i start end behind is =
      let more : size * i + size ≡ size * (i + 1) = grind arith in
      let all : drop end bits ≡ drop (start + size) bits = elim (cases_lt (length bits) (start + size)) [
        | inl past ↦ drop_all end bits (omega (arith, is)) ∙ sym (drop_all (start + size) bits (omega arith))
        | inr low ↦ let same : end ≡ start + size = omega (arith, is) in ap (λ n. drop n bits) same
      ] in
      all ∙ sym (drop-drop size start bits) ∙ ap (drop size) behind ∙ drop-drop size (size * i) (drop from bits)
      ∙ ap (λ n. drop n (drop from bits)) more

-- as many digits more
pub fan-more : (width digits : ℕ) → fan_of width * fan ^ digits ≡ fan ^ (digits + width)
fan-more width digits =
    let turned : width + digits ≡ digits + width = omega arith in
    sym (pow-add fan width digits) ∙ ap (λ n. fan ^ n) turned

-- some bits tell those below the whole grid
pub codes_in-some : (widths : List ℕ) (bits : List Bool) → (length bits ≡ 0 → ⊥) → codes_in widths bits ≡ codes_below widths (0 ∷ []) bits
unfolding codes_in
codes_in-some widths [] some = absurd (some refl)
codes_in-some widths (bit ∷ bits) some = refl
