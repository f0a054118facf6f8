-- The first stop in a region, of a tail's rows and a walk's stops: of the walk those in the region are enough.
use Rattle.std.proofs.Common.{◌≡◌, ℕ, ℤ, ◌≤ℤ◌, ◌<ℤ◌, true, false, List, [], ◌∷◌, ◌++◌, filter, map, Option, None, Some, refl, sym, subst, ◌∙◌, ap, arith, ◌⊎◌, inl, inr}
use Rattle.std.specs.Int.Signed.{le_z}
use Rattle.std.specs.List.{AllByRecursion}
use Rattle.std.specs.List.Sorted.{IsStrictlySortedBy}
use Rattle.std.specs.Option.{IfNone, IfSome, option_to_list}
use Rattle.std.specs.Ordering.{int_cmp}
use Rattle.std.specs.declared.cmp.Ordering.TheVariants.{Less}
use Rattle.std.proofs.lemmas.Bool.{cases_Bool}
use Rattle.std.proofs.lemmas.Int.{ints}
use Rattle.std.proofs.lemmas.List.Kept.{IsStrictlySortedBy-filter}
use Rattle.log_cursor.specs.Touching.{IsDrawnIn, first_among}
use Rattle.track_types.specs.ByFilter.{is_row_between, path_of, stop_of}
use Rattle.track_types.specs.Region.{in_region}
use Rattle.track_types.specs.Row.{IsAscending, row_order}
use Rattle.track_types.specs.declared.region.Region.{Region}
use Rattle.track_types.specs.declared.row.Row.{Row}
use Rattle.track_types.specs.declared.stop.Stop.{Stop}
use Rattle.path_union.specs.Merge.{merge_of}
use Rattle.live_tail.specs.Walk.{is_at, is_before, stop_order, stops_with}
use Rattle.path_union.proofs.WalkLemmas.{merge_of-both, merge_of-later, merge_of-nil, merge_of-older}
use Rattle.live_tail.proofs.HitLemmas.{first-later}
use Rattle.live_tail.proofs.JoinLemmas.{all-window, order-stops}

-- the stops of rows of one object that ascend ascend
rise-after : (object : ℕ) (row : Row) (rows : List Row) → row.object ≡ object →
    AllByRecursion (λ (r : Row). r.object ≡ object) rows → AllByRecursion (λ r. row_order row r ≡ Less) rows →
    AllByRecursion (λ stop. stop_order (stop_of row) stop ≡ Less) (map stop_of rows)
rise-after object row [] own all up = tt
rise-after object row (next ∷ rows) own all up =
    (sym (order-stops object row next own all.0) ∙ up.0, rise-after object row rows own all.1 up.1)

rise : (object : ℕ) (rows : List Row) → AllByRecursion (λ (r : Row). r.object ≡ object) rows →
    IsStrictlySortedBy row_order rows → IsStrictlySortedBy stop_order (map stop_of rows)
unfolding IsStrictlySortedBy
rise object [] all up = tt
rise object (row ∷ rows) all up = (rise-after object row rows all.0 all.1 up.0, rise object rows all.1 up.1)

-- so those of a path do
pub path-rises : (rows : List Row) → IsAscending rows → (object : ℕ) (from to : ℤ) →
    IsStrictlySortedBy stop_order (path_of rows object from to)
path-rises rows up object from to =
    rise object (filter (is_row_between object from to) rows) (all-window object from to rows)
    (IsStrictlySortedBy-filter row_order (is_row_between object from to) rows up)

-- two instants
apart : (a b : ℤ) → (a <ℤ b) ⊎ ((b <ℤ a) ⊎ (a ≡ b))
apart a b = elim (cases_Bool (le_z b a)) [
  | inl low ↦ elim (cases_Bool (le_z a b)) [
    | inl high ↦ let same : a ≡ b = grind (arith, ints) in inr (inr same)
    | inr more ↦ let less : b <ℤ a = grind (arith, ints) in inr (inl less)
  ]
  | inr less ↦ let it : a <ℤ b = grind (arith, ints) in inl it
]

less_from : (a b : ℤ) → int_cmp a b ≡ Less → a <ℤ b
less_from a b is = grind (arith, ints)

-- a later stop that comes before all older ones
keep-first : (x : Stop) (xs older : List Stop) → AllByRecursion (λ stop. x.instant <ℤ stop.instant) older →
    merge_of stop_order (x ∷ xs) older ≡ x ∷ merge_of stop_order xs older
keep-first x xs [] above = merge_of-nil (x ∷ xs) ∙ ap (λ s. x ∷ s) (sym (merge_of-nil xs))
keep-first x xs (y ∷ older) above = merge_of-later x xs y older above.0

-- what comes after a stop of the order
above-all : (x p : Stop) (older : List Stop) → x.instant ≤ℤ p.instant →
    AllByRecursion (λ stop. stop_order p stop ≡ Less) older → AllByRecursion (λ (stop : Stop). x.instant <ℤ stop.instant) older
above-all x p [] low up = tt
above-all x p (y ∷ older) low up =
    let next = less_from p.instant y.instant up.0 in
    let first : x.instant <ℤ y.instant = omega (arith, ints, low, next) in
    (first, above-all x p older low up.1)

module _ (region : Region) where
  -- what is found after the same first stop
  found-after : (x : Stop) (xs ys : List Stop) → first_among region xs ≡ first_among region ys →
      first_among region (x ∷ xs) ≡ first_among region (x ∷ ys)
  found-after x xs ys same = elim (cases_Bool (in_region region x.cell)) [
    | inl held ↦ rw held refl
    | inr out ↦ rw out same
  ]

  -- an older stop out of the region changes nothing
  skip : (own : List Stop) (p : Stop) (older : List Stop) → in_region region p.cell ≡ false →
      IsStrictlySortedBy stop_order (p ∷ older) →
      first_among region (merge_of stop_order own (p ∷ older)) ≡ first_among region (merge_of stop_order own older)
  unfolding merge_of IsStrictlySortedBy
  skip [] p older out up = first-later region p older out
  skip (x ∷ xs) p older out up = elim (apart x.instant p.instant) [
    | inl before ↦
        let above = above-all x p older (omega (arith, ints, before)) up.0 in
        ap (first_among region) (merge_of-later x xs p older before)
        ∙ found-after x (merge_of stop_order xs (p ∷ older)) (merge_of stop_order xs older) (skip xs p older out up)
        ∙ ap (first_among region) (sym (keep-first x xs older above))
    | inr (inl after) ↦
        ap (first_among region) (merge_of-older x xs p older after)
        ∙ first-later region p (merge_of stop_order (x ∷ xs) older) out
    | inr (inr same) ↦
        let above = above-all x p older (omega (arith, ints, same)) up.0 in
        ap (first_among region) (merge_of-both x xs p older same ∙ sym (keep-first x xs older above))
  ]

  outside-first : (p : Stop) (passed : List Stop) → first_among region (p ∷ passed) ≡ None →
      (in_region region p.cell ≡ false) × (first_among region passed ≡ None)
  outside-first p passed none = elim (cases_Bool (in_region region p.cell)) [
    | inl held ↦ let some : Some p ≡ None = rw held at none in absurd (cc)
    | inr out ↦ (out, rw out at none)
  ]

  -- so do several
  skip-all : (own passed older : List Stop) → first_among region passed ≡ None →
      IsStrictlySortedBy stop_order (passed ++ older) →
      first_among region (merge_of stop_order own (passed ++ older)) ≡ first_among region (merge_of stop_order own older)
  unfolding IsStrictlySortedBy
  skip-all own [] older none up = refl
  skip-all own (p ∷ passed) older none up =
      let out = outside-first p passed none in
      skip own p (passed ++ older) out.0 up ∙ skip-all own passed older out.1 up.1

  behind-passed : (passed older : List Stop) → IsStrictlySortedBy stop_order (passed ++ older) →
      IsStrictlySortedBy stop_order older
  unfolding IsStrictlySortedBy
  behind-passed [] older up = up
  behind-passed (p ∷ passed) older up = behind-passed passed older up.1

  -- what was drawn of a walk for the region
  module _ {before now : List Stop} {hit : Option Stop} (drawn : IsDrawnIn region before now hit)
      (up : IsStrictlySortedBy stop_order before) where
    pub drawn-rises : IsStrictlySortedBy stop_order (option_to_list hit ++ now)
    drawn-rises =
        behind-passed drawn.passed (option_to_list hit ++ now) (subst (IsStrictlySortedBy stop_order) drawn.all up)

    pub drawn-same : (own : List Stop) → first_among region (merge_of stop_order own before)
        ≡ first_among region (merge_of stop_order own (option_to_list hit ++ now))
    drawn-same own =
        ap (λ s. first_among region (merge_of stop_order own s)) drawn.all
        ∙ skip-all own drawn.passed (option_to_list hit ++ now) drawn.outside
        (subst (IsStrictlySortedBy stop_order) drawn.all up)

  -- a row and later ones of an object, and the next stop of a walk in the region, which is none where none is left
  module _ (row : Row) (later : List Row) (left : List Stop) where
    abbrev both : Option Stop → List Stop
    both hit = stops_with (row ∷ later) (option_to_list hit ++ left)

    -- the stop comes first
    pub found-before : (hit : Option Stop) → is_before hit row.instant ≡ true →
        IfSome hit (λ stop. in_region region stop.cell ≡ true) → hit ≡ first_among region (both hit)
    found-before None before inside = absurd (cc)
    found-before (Some stop) before inside =
        let less : stop.instant <ℤ row.instant = grind (arith, ints) in
        sym (ap (first_among region) (merge_of-older (stop_of row) (map stop_of later) stop left less) ∙ rw inside refl)

    -- the row does, and is in the region
    pub found-row : (hit : Option Stop) → is_before hit row.instant ≡ false → IfNone hit (left ≡ []) →
        in_region region row.cell ≡ true → Some (stop_of row) ≡ first_among region (both hit)
    found-row None before end held =
        sym (ap (λ s. first_among region (merge_of stop_order (stop_of row ∷ map stop_of later) s)) end
        ∙ ap (first_among region) (merge_of-nil (stop_of row ∷ map stop_of later)) ∙ rw held refl)
    found-row (Some stop) before end held = elim (apart row.instant stop.instant) [
      | inl less ↦
          sym (ap (first_among region) (merge_of-later (stop_of row) (map stop_of later) stop left less) ∙ rw held refl)
      | inr (inl more) ↦ let it : is_before (Some stop) row.instant ≡ true = grind (arith, ints) in absurd (cc)
      | inr (inr same) ↦
          sym (ap (first_among region) (merge_of-both (stop_of row) (map stop_of later) stop left same) ∙ rw held refl)
    ]

    module _ (out : in_region region row.cell ≡ false) where
      -- the row counts, and not the stop at its instant
      pub found-both : (hit : Option Stop) → is_at hit row.instant ≡ true →
          first_among region (both hit) ≡ first_among region (stops_with later left)
      found-both None at = absurd (cc)
      found-both (Some stop) at =
          let same : row.instant ≡ stop.instant = grind (arith, ints) in
          ap (first_among region) (merge_of-both (stop_of row) (map stop_of later) stop left same)
          ∙ first-later region (stop_of row) (merge_of stop_order (map stop_of later) left) out

      -- the row comes first
      pub found-past : (hit : Option Stop) → is_before hit row.instant ≡ false → is_at hit row.instant ≡ false →
          IfNone hit (left ≡ []) →
          first_among region (both hit) ≡ first_among region (stops_with later (option_to_list hit ++ left))
      found-past None before at end =
          ap (λ s. first_among region (merge_of stop_order (stop_of row ∷ map stop_of later) s)) end
          ∙ ap (first_among region) (merge_of-nil (stop_of row ∷ map stop_of later))
          ∙ first-later region (stop_of row) (map stop_of later) out
          ∙ ap (first_among region) (sym (merge_of-nil (map stop_of later)))
          ∙ ap (λ s. first_among region (merge_of stop_order (map stop_of later) s)) (sym end)
      found-past (Some stop) before at end =
          let less : row.instant <ℤ stop.instant = grind (arith, ints) in
          ap (first_among region) (merge_of-later (stop_of row) (map stop_of later) stop left less)
          ∙ first-later region (stop_of row) (merge_of stop_order (map stop_of later) (stop ∷ left)) out

  -- no row is left
  pub found-end : (left : List Stop) (hit : Option Stop) → IfNone hit (left ≡ []) →
      IfSome hit (λ stop. in_region region stop.cell ≡ true) →
      hit ≡ first_among region (stops_with [] (option_to_list hit ++ left))
  unfolding merge_of
  found-end left None end inside = rw end refl
  found-end left (Some stop) end inside = rw inside refl

-- what is left behind a stop ascends
pub rest-rises : (hit : Option Stop) (left : List Stop) → IsStrictlySortedBy stop_order (option_to_list hit ++ left) →
    IsStrictlySortedBy stop_order left
unfolding IsStrictlySortedBy
rest-rises None left up = up
rest-rises (Some stop) left up = up.1
