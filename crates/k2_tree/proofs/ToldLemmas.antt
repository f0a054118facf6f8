-- The numbers that a tree's bits tell.
use Rattle.std.proofs.Common.{◌≡◌, ℕ, ◌+◌, ◌*◌, ◌<◌, ◌≤◌, Bool, List, [], ◌∷◌, ◌++◌}
use Rattle.std.proofs.Common.{length, map, filter, drop, refl, inl, inr, sym, ap, ◌∙◌, arith, subst, length-append}
use Rattle.std.proofs.lemmas.Bool.{cases_Bool}
use Rattle.std.proofs.lemmas.List.{drop_at}
use Rattle.track_types.specs.declared.limit.TheConstants.{MAX_TREE}
use Rattle.k2_tree.specs.Widths.{digits_in, fan_of, widths_of}
use Rattle.k2_tree.specs.TreeBits.{is_in, prefixes, Rises, level_bits, children_of_prefixes, morton_bits, AreCodes}
use Rattle.k2_tree.specs.Tree.{where_set, codes_below, codes_in, AreTreeBits}
use Rattle.k2_tree.proofs.PrefixLemmas.{prefixes-none, prefixes-top, prefixes-zero, fan_pos}
use Rattle.k2_tree.proofs.LongerLemmas.{prefixes-from_longer}
use Rattle.k2_tree.proofs.LevelLemmas.{length-level_bits}
use Rattle.k2_tree.proofs.WidthLemmas.{digits_in-widths_of}

-- no cell gives no bits
pub morton_bits-none : (widths : List ℕ) → morton_bits widths [] ≡ []
unfolding morton_bits level_bits children_of_prefixes
morton_bits-none [] = refl
morton_bits-none (w ∷ ws) = rw (prefixes-none (w + digits_in ws)) (morton_bits-none ws)

-- the bits of a test pick what it keeps, whatever follows them
where_set-map : (p : ℕ → Bool) (xs : List ℕ) (rest : List Bool) → where_set (map p xs ++ rest) xs ≡ filter p xs
unfolding where_set
where_set-map p [] [] = refl
where_set-map p [] (bit ∷ rest) = refl
where_set-map p (x ∷ xs) rest = elim (cases_Bool (p x)) [
  | inl kept ↦ rw kept (ap (λ ys. x ∷ ys) (where_set-map p xs rest))
  | inr gone ↦ rw gone (where_set-map p xs rest)
]

-- from a level downwards
codes_below-morton_bits : (widths codes : List ℕ) → Rises 0 codes
    → codes_below widths (prefixes (digits_in widths) codes) (morton_bits widths codes) ≡ codes
unfolding codes_below morton_bits level_bits digits_in
codes_below-morton_bits [] codes up = prefixes-zero codes up
codes_below-morton_bits (w ∷ ws) codes up =
    let n : ℕ = digits_in ws in
    let above : List ℕ = prefixes (w + n) codes in
    let level : List Bool = map (is_in (prefixes n codes)) (children_of_prefixes (fan_of w) above) in
    let kept : where_set (level ++ morton_bits ws codes) (children_of_prefixes (fan_of w) above) ≡ prefixes n codes =
    where_set-map (is_in (prefixes n codes)) (children_of_prefixes (fan_of w) above) (morton_bits ws codes)
    ∙ prefixes-from_longer w n codes up in
    let left : drop (fan_of w * length above) (level ++ morton_bits ws codes) ≡ morton_bits ws codes =
    drop_at level (morton_bits ws codes) (fan_of w * length above) (length-level_bits w n codes) in
    rw (kept, left) (codes_below-morton_bits ws codes up)

-- bits that are some are told from the top
codes_in-some : (widths : List ℕ) (bits : List Bool) → 0 < length bits
    → codes_in widths bits ≡ codes_below widths (0 ∷ []) bits
unfolding codes_in
codes_in-some widths [] some = absurd (omega arith)
codes_in-some widths (bit ∷ bits) some = refl

-- no bits tell nothing
pub codes_in-none : (widths : List ℕ) (bits : List Bool) → length bits ≡ 0 → codes_in widths bits ≡ []
unfolding codes_in
codes_in-none widths [] none = refl
codes_in-none widths (b ∷ bits) none = absurd (omega arith)

-- the bits of Morton numbers tell these numbers
pub codes_in-morton_bits : (widths codes : List ℕ) → 1 ≤ length widths → AreCodes (digits_in widths) codes
    → codes_in widths (morton_bits widths codes) ≡ codes
unfolding morton_bits digits_in
codes_in-morton_bits widths [] some are = ap (codes_in widths) (morton_bits-none widths) ∙ codes_in-none widths [] refl
codes_in-morton_bits [] (c ∷ cs) some are = absurd (omega arith)
codes_in-morton_bits (w ∷ ws) (c ∷ cs) some are =
    let n : ℕ = digits_in ws in
    let bits : List Bool = morton_bits (w ∷ ws) (c ∷ cs) in
    let top : prefixes (w + n) (c ∷ cs) ≡ 0 ∷ [] = prefixes-top (w + n) c cs are.small in
    let long = length-append (level_bits w n (c ∷ cs)) (morton_bits ws (c ∷ cs)) in
    let level = length-level_bits w n (c ∷ cs) in
    let one : fan_of w * length (prefixes (w + n) (c ∷ cs)) ≡ fan_of w =
    ap (λ ps. fan_of w * length ps) top ∙ omega arith in
    codes_in-some (w ∷ ws) bits (omega (arith, long, level, one, fan_pos w))
    ∙ ap (λ ps. codes_below (w ∷ ws) ps bits) (sym top) ∙ codes_below-morton_bits (w ∷ ws) (c ∷ cs) are.rising

-- a tree has a level
some_levels : (widths : List ℕ) → 0 < digits_in widths → 1 ≤ length widths
unfolding digits_in
some_levels [] some = absurd (omega arith)
some_levels (w ∷ ws) some = omega arith

module _ (height wide : ℕ) (codes : List ℕ) (some : 1 ≤ height) (fits : 2 * wide ≤ height)
    (are : AreCodes height codes) where
  abbrev widths : List ℕ
  widths = widths_of height wide

  -- a tree's bits tell its numbers
  pub codes_in-own : codes_in widths (morton_bits widths codes) ≡ codes
  codes_in-own =
      let digits : digits_in widths ≡ height = digits_in-widths_of height wide fits in
      codes_in-morton_bits widths codes (some_levels widths (omega (arith, digits))) (rw digits are)

  -- the bits of Morton numbers are a tree's
  pub AreTreeBits-morton_bits : length (morton_bits widths codes) ≤ MAX_TREE
      → AreTreeBits height wide (morton_bits widths codes)
  AreTreeBits-morton_bits few = record {
    fits = fits;
    codes = subst (AreCodes height) (sym codes_in-own) are;
    exact = ap (morton_bits widths) (sym codes_in-own);
    few = few;
  }
