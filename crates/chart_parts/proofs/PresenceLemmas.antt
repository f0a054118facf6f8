-- The anchors of a period: rows of the chart, by object, at most one for each. A presence bit is a one for each object
-- that has an anchor there, and its rank is the anchor's place.
use Rattle.std.proofs.Common.{◌≡◌, ℕ, ◌+◌, ◌<◌, ◌≤◌, true, false, length, get_or, map, Some, refl, sym, ap, ◌∙◌, arith, inl, inr, List, filter, take, None, subst, zero, suc, Bool, [], ◌∷◌, ◌++◌, replicate, eq-eqb, ne_eqb, eqb-true, ◌≢◌}
use Rattle.std.specs.Prelude.{◌==◌, not, slice_index, slice_set, find, Option, ℤ, ◌≤ℤ◌}
use Rattle.std.specs.List.{Contains, list_any, range_with_len}
use Rattle.std.specs.List.Sorted.{IsStrictlyIncreasing, IsStrictlySortedBy}
use Rattle.std.specs.Ordering.{nat_cmp}
use Rattle.std.proofs.lemmas.Bool.{cases_lt, not-true, cases_Bool}
use Rattle.std.proofs.lemmas.Bool.Decides.{nat_tests}
use Rattle.std.proofs.lemmas.Int.{ints, by_lt_z}
use Rattle.std.proofs.lemmas.List.{get_or-map, length-map, same_lists}
use Rattle.std.proofs.lemmas.List.Elements.{Contains-get_or}
use Rattle.std.proofs.lemmas.List.Kept.{IsStrictlySortedBy-filter}
use Rattle.std.proofs.lemmas.Map.Keys.{Less-from_sorted, sorted_from_strictly_increasing}
use Rattle.std.proofs.lemmas.Cmp.{nat_cmp_total}
use Rattle.std.proofs.lemmas.List.Folds.{Any-from_list_any, list_any_at, list_any-append}
use Rattle.std.proofs.lemmas.List.FromFn.{get_or-map-range_with_len, length-map-range_with_len}
use Rattle.std.proofs.lemmas.List.Sums.{passes_at_first}
use Rattle.list_laws.proofs.MemberLemmas.{find-only, member_of_filter, none_from_list_any, Contains-filter, Contains-map, member_of_map}
use Rattle.list_laws.proofs.PieceLemmas.{get_or-filter}
use Rattle.list_laws.proofs.AscendingLemmas.{find-none, same_from_members}
use Rattle.track_types.specs.Chart.{ChartView, IsChart}
use Rattle.track_types.specs.Quantities.{anchors_of, first_of, is_anchor, period_of, objects_of}
use Rattle.track_types.specs.Row.{row_order}
use Rattle.track_types.specs.declared.row.Row.{Row}
use Rattle.movement_log.specs.Blocks.{no_row, row_at}
use Rattle.movement_log.specs.Logs.{anchors_in, head_of, terminal_of}
use Rattle.packed_bits.specs.Bits.{ones_of}
use Rattle.bit_rank.specs.Bits.{rank_of}
use Rattle.bit_rank.proofs.RankLemmas.{ones_of-map, rank_of-map, ones_of-le-length}
use Rattle.movement_log.specs.declared.head.Head.{Head}
use Rattle.movement_log.proofs.AlphabetLemmas.{terminal_at}
use Rattle.chart_parts.specs.PartsOf.{is_present}
use Rattle.chart_parts.specs.PeriodWith.{presence_of}
use Rattle.chart_parts.proofs.CellLemmas.{row-only}
use Rattle.chart_parts.proofs.ObjectLemmas.{Contains-distinct, objects_of-sorted, IsStrictlyIncreasing-objects_of}
use Rattle.movement_log.proofs.AnchorLemmas.{before_from, is_before, same_from_parts}
use Rattle.movement_log.proofs.RowLemmas.{instant_lt}
use Rattle.track_types.proofs.RowLemmas.{object_le}
use Rattle.list_laws.proofs.MapLemmas.{set-map-range}

-- the anchor of an object's block in a period, if it has one there
unfoldable pub anchor_of : ChartView → ℕ → ℕ → Option Row
anchor_of chart number object = find (λ anchor. anchor.object == object) (anchors_in chart number)

module _ (chart : ChartView) (is : IsChart chart) (number : ℕ) where
  -- an anchor of the period: a row of the chart that is its block's first and lies in the period
  pub record IsAnchorIn (anchor : Row) : Type 0 where
    pub among : Contains chart.rows anchor
    pub first : is_anchor (first_of chart.rows) chart.period chart.rows anchor ≡ true
    pub period : period_of (first_of chart.rows) chart.period anchor ≡ number

  -- each member is one
  pub IsAnchorIn-member : (anchor : Row) → Contains (anchors_in chart number) anchor → IsAnchorIn anchor
  unfolding anchors_of
  IsAnchorIn-member anchor inside =
      let late = member_of_filter _ (anchors_of (first_of chart.rows) chart.period chart.rows) anchor inside in
      let row = member_of_filter _ chart.rows anchor late.0 in
      record { among = row.0; first = row.1; period = grind (arith, nat_tests, late.1) }

  anchors-sorted : IsStrictlySortedBy row_order (anchors_in chart number)
  unfolding anchors_of
  anchors-sorted =
      IsStrictlySortedBy-filter row_order _ (anchors_of (first_of chart.rows) chart.period chart.rows)
      (IsStrictlySortedBy-filter row_order _ chart.rows is.ascending)

  -- an anchor has no earlier row of its block
  pub none_earlier : (anchor row : Row) → IsAnchorIn anchor → Contains chart.rows row → row.object ≡ anchor.object →
      period_of (first_of chart.rows) chart.period row ≡ number → anchor.instant ≤ℤ row.instant
  none_earlier anchor row its among same period =
      let first : ℤ = first_of chart.rows in
      by_lt_z row.instant anchor.instant
      (λ less.
      let block = same_from_parts first chart.period row anchor same (period ∙ sym its.period) in
      let before = before_from first chart.period anchor row block less in
      let not = none_from_list_any (is_before first chart.period anchor) chart.rows row (not-true _ its.first) among in
      absurd (cc))
      (λ not. not)

  -- the anchors of a period have one object each, and go by it
  pub IsStrictlyIncreasing-anchors : IsStrictlyIncreasing (map (λ anchor. anchor.object) (anchors_in chart number))
  IsStrictlyIncreasing-anchors k within =
      let anchors : List Row = anchors_in chart number in
      let long = length-map anchors (λ (anchor : Row). anchor.object) in
      let a : Row = row_at anchors k in
      let b : Row = row_at anchors (k + 1) in
      let order = Less-from_sorted row_order anchors k (k + 1) no_row anchors-sorted (omega arith) (omega arith) in
      let its = IsAnchorIn-member a (Contains-get_or anchors k no_row (omega arith)) in
      let next = IsAnchorIn-member b (Contains-get_or anchors (k + 1) no_row (omega arith)) in
      let low : a.object < b.object = elim (cases_lt a.object b.object) [
        | inl less ↦ less
        | inr not ↦
            let same : a.object ≡ b.object = omega (arith, object_le a b order) in
            let later = instant_lt a b order same in
            let early = none_earlier b a next its.among same its.period in
            absurd (omega (arith, ints))
      ] in
      rw (
        get_or-map (λ (anchor : Row). anchor.object) anchors k no_row 0 (omega arith),
        get_or-map (λ (anchor : Row). anchor.object) anchors (k + 1) no_row 0 (omega arith),
      ) low

  -- an anchor of a period is its object's
  pub anchor_of-member : (anchor : Row) → Contains (anchors_in chart number) anchor →
      anchor_of chart number anchor.object ≡ Some anchor
  unfolding anchor_of
  anchor_of-member anchor inside =
      find-only (λ row. row.object == anchor.object) (anchors_in chart number) anchor inside
      (eq-eqb anchor.object anchor.object refl)
      (λ other among test.
      let same = eqb-true other.object anchor.object test in
      let its = IsAnchorIn-member anchor inside in
      let others = IsAnchorIn-member other among in
      let early = none_earlier anchor other its others.among same others.period in
      let late = none_earlier other anchor others its.among (sym same) its.period in
      row-only chart.rows is.ascending other anchor others.among its.among same (omega (arith, ints)))

module _ (chart : ChartView) (is : IsChart chart) (number : ℕ) where
  abbrev object_in : Row → ℕ
  object_in row = row.object

  -- the objects with an anchor in a period are those of its anchors
  pub filter-is_present :
      filter (is_present chart number) (objects_of chart.rows) ≡ map (λ anchor. anchor.object) (anchors_in chart number)
  filter-is_present =
      same_from_members nat_cmp_total (filter (is_present chart number) (objects_of chart.rows))
      (map object_in (anchors_in chart number))
      (IsStrictlySortedBy-filter nat_cmp (is_present chart number) (objects_of chart.rows)
      (objects_of-sorted chart.rows is.ascending))
      (sorted_from_strictly_increasing (map object_in (anchors_in chart number))
      (IsStrictlyIncreasing-anchors chart is number))
      (λ object inside.
      let kept = member_of_filter (is_present chart number) (objects_of chart.rows) object inside in
      let any = Any-from_list_any (λ (anchor : Row). anchor.object == object) (anchors_in chart number) kept.1 in
      let same : (any.1).object ≡ object = eqb-true (any.1).object object any.4 in
      subst (Contains (map object_in (anchors_in chart number))) same
      (Contains-map object_in (anchors_in chart number) any.1 (any.0, any.2, any.3)))
      (λ object inside.
      let from = member_of_map object_in (anchors_in chart number) object inside in
      let row : Row = from.0 in
      let there : Contains (anchors_in chart number) row = from.1 in
      let same : row.object ≡ object = from.2 in
      let among = (IsAnchorIn-member chart is number row there).among in
      let k : ℕ = there.0 in
      let inside' : k < length (anchors_in chart number) = there.1 in
      let at : get_or (anchors_in chart number) k row ≡ row = there.2 in
      let test : is_present chart number object ≡ true =
      list_any_at (λ (anchor : Row). anchor.object == object) (anchors_in chart number) k row inside'
      (eq-eqb _ object (ap object_in at ∙ same)) in
      Contains-filter (is_present chart number) (objects_of chart.rows) object test
      (Contains-distinct (map object_in chart.rows) object
      (subst (Contains (map object_in chart.rows)) same (Contains-map object_in chart.rows row among))))

  -- there is a one for each anchor
  pub ones_of-present :
      ones_of (map (is_present chart number) (objects_of chart.rows)) ≡ length (anchors_in chart number)
  ones_of-present =
      ones_of-map (is_present chart number) (objects_of chart.rows) ∙ ap length filter-is_present
      ∙ length-map (anchors_in chart number) object_in

  -- and no more anchors than objects
  pub few_anchors : length (anchors_in chart number) ≤ length (objects_of chart.rows)
  few_anchors =
      let present : List Bool = map (is_present chart number) (objects_of chart.rows) in
      omega (
        arith,
        ones_of-present,
        ones_of-le-length present,
        length-map (objects_of chart.rows)
            (is_present chart number),
      )

  module _ (i : ℕ) (within : i < length (objects_of chart.rows)) where
    abbrev object : ℕ
    object = slice_index (objects_of chart.rows) i

    abbrev rank : ℕ
    rank = rank_of (map (is_present chart number) (objects_of chart.rows)) i

    -- an object with an anchor in a period: its rank is the anchor's place
    pub anchor_of-present : is_present chart number object ≡ true
        → (rank < length (anchors_in chart number))
        × (anchor_of chart number object ≡ Some (row_at (anchors_in chart number) rank))
    anchor_of-present on =
        let objects : List ℕ = objects_of chart.rows in
        let kept = get_or-filter (is_present chart number) objects i 0 within on in
        let place : rank ≡ length (filter (is_present chart number) (take i objects)) =
        rank_of-map (is_present chart number) objects i in
        let long : length (filter (is_present chart number) objects) ≡ length (anchors_in chart number) =
        ap length filter-is_present ∙ length-map (anchors_in chart number) object_in in
        let inside : rank < length (anchors_in chart number) = omega (arith, kept.0) in
        let row : Row = row_at (anchors_in chart number) rank in
        let same : row.object ≡ object =
        sym (get_or-map object_in (anchors_in chart number) rank no_row 0 inside)
        ∙ ap (λ xs. slice_index xs rank) (sym filter-is_present)
        ∙ ap (slice_index (filter (is_present chart number) objects)) place ∙ kept.1 in
        let its : anchor_of chart number row.object ≡ Some row =
        anchor_of-member chart is number row (Contains-get_or (anchors_in chart number) rank no_row inside) in
        (inside, ap (anchor_of chart number) (sym same) ∙ its)

    -- an object without one
    pub anchor_of-absent : is_present chart number object ≡ false → anchor_of chart number object ≡ None
    unfolding anchor_of
    anchor_of-absent off =
        find-none (λ (anchor : Row). anchor.object == object) (anchors_in chart number)
        (λ row inside.
        none_from_list_any (λ (anchor : Row). anchor.object == object) (anchors_in chart number) row off inside)

pub presence_from-none : (from n : ℕ) → map (λ index. false) (range_with_len from n) ≡ replicate n false
presence_from-none from zero = refl
presence_from-none from (suc n) = ap (λ bits. false ∷ bits) (presence_from-none (from + 1) n)

-- one header more sets the bit of its object
pub presence_of-snoc : (heads : List Head) (head : Head) (objects : ℕ) → head.index < objects →
    presence_of objects (heads ++ head ∷ []) ≡ slice_set (presence_of objects heads) head.index true
presence_of-snoc heads head objects within =
    let before : ℕ → Bool = λ index. list_any (λ h. h.index == index) heads in
    let after : ℕ → Bool = λ index. list_any (λ h. h.index == index) (heads ++ head ∷ []) in
    let here : (head.index == head.index) ≡ true = eq-eqb head.index head.index refl in
    let on : after head.index ≡ true =
    rw (list_any-append (λ h. h.index == head.index) heads (head ∷ []), here) (grind (arith, nat_tests)) in
    let others : (n : ℕ) → n ≢ head.index → before n ≡ after n = λ n apart.
    let other : (head.index == n) ≡ false = ne_eqb head.index n (λ e. apart (sym e)) in
    rw (list_any-append (λ h. h.index == n) heads (head ∷ []), other) (grind (arith, nat_tests)) in
    sym (ap (slice_set (presence_of objects heads) head.index) (sym on)
    ∙ set-map-range before after 0 objects head.index head.index (omega arith) others within)

-- a value has a place where the number at the place is the value
terminal_of-at : (xs : List ℕ) (value place : ℕ) → IsStrictlyIncreasing xs → place < length xs →
    (terminal_of xs value == place) ≡ (value == get_or xs place 0)
terminal_of-at xs value place up within = elim (cases_Bool (value == get_or xs place 0)) [
  | inl same ↦
      let at = terminal_at xs value place up within (sym (eqb-true value (get_or xs place 0) same)) in
      eq-eqb (terminal_of xs value) place at ∙ sym same
  | inr other ↦ elim (cases_Bool (terminal_of xs value == place)) [
    | inl is ↦
        let there : terminal_of xs value ≡ place = eqb-true (terminal_of xs value) place is in
        let found = passes_at_first (λ x. x == value) xs 0 (omega arith) in
        let at : get_or xs place 0 ≡ value = eqb-true (get_or xs place 0) value (rw there at found) in
        let never : (value == get_or xs place 0) ≡ true = eq-eqb value (get_or xs place 0) (sym at) in
        absurd (cc)
    | inr not ↦ not ∙ sym other
  ]
]

module _ (chart : ChartView) (is : IsChart chart) where
  any_at : (place : ℕ) → place < length (objects_of chart.rows) → (anchors : List Row) →
      list_any (λ head. head.index == place) (map (head_of chart) anchors)
      ≡ list_any (λ anchor. anchor.object == get_or (objects_of chart.rows) place 0) anchors
  any_at place within [] = refl
  any_at place within (anchor ∷ anchors) =
      rw (
        terminal_of-at (objects_of chart.rows) anchor.object place
            (IsStrictlyIncreasing-objects_of chart.rows is.ascending) within,
        any_at place within anchors,
      ) refl

  -- the presence bits of a period's headers
  pub presence_of-heads : (number : ℕ) →
      presence_of (length (objects_of chart.rows)) (map (head_of chart) (anchors_in chart number))
      ≡ map (is_present chart number) (objects_of chart.rows)
  presence_of-heads number =
      let objects : List ℕ = objects_of chart.rows in
      let anchors : List Row = anchors_in chart number in
      let bit = λ (index : ℕ). list_any (λ head. head.index == index) (map (head_of chart) anchors) in
      let many = length-map-range_with_len bit 0 (length objects) in
      same_lists _ _ (many ∙ sym (length-map objects (is_present chart number)))
      (λ k d within.
      let low : k < length objects = omega arith in
      get_or-map-range_with_len bit 0 (length objects) k k d low (omega arith)
      ∙ any_at k low anchors ∙ sym (get_or-map (is_present chart number) objects k 0 d low))
