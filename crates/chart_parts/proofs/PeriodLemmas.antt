-- Blocks by period, one period after the other: those of a chart, few in each, give the parts of its periods.
use Rattle.std.proofs.Common.{◌≡◌, ℕ, suc, ◌+◌, ◌<◌, ◌≤◌, false, List, [], ◌∷◌, drop, filter, map, refl, take, ap, arith, inl, inr, ne_eqb, ◌-◌, length, sym, ◌∙◌, get_or, subst}
use Rattle.std.specs.Prelude.{◌==◌, All}
use Rattle.std.specs.List.{prefix_len, zip}
use Rattle.std.specs.List.Sorted.{IsNonDecreasingBy}
use Rattle.std.proofs.lemmas.Bool.{cases_Bool}
use Rattle.std.proofs.lemmas.Bool.Decides.{nat_tests}
use Rattle.std.proofs.lemmas.List.{drop-drop, drop-map, length-drop, length-map, take-map, take_all}
use Rattle.std.proofs.lemmas.List.Elements.{All-filter, All-map, Contains-get_or}
use Rattle.std.proofs.lemmas.Slice.Zip.{firsts-zip, seconds-zip}
use Rattle.std.proofs.lemmas.Simd.{map-map}
use Rattle.list_laws.proofs.KeyRangeLemmas.{of_key, IsNonDecreasingBy-by_key}
use Rattle.list_laws.proofs.MapLemmas.{filter-map, map-range_agree, member_of_zip}
use Rattle.track_types.specs.Frame.{periods_of}
use Rattle.track_types.specs.declared.frame.Frame.{Frame}
use Rattle.k2_tree.specs.Morton.{IsInGrid, morton_of}
use Rattle.movement_log.specs.declared.head.Head.{Head}
use Rattle.track_types.specs.Chart.{ChartView, IsChart}
use Rattle.track_types.specs.Quantities.{anchors_of, first_of, object_count, period_count, objects_of}
use Rattle.track_types.specs.declared.row.Row.{Row}
use Rattle.movement_log.specs.Logs.{anchors_in, block_anchors, head_of, logs_of}
use Rattle.snapshots.specs.Parts.{numbers_in}
use Rattle.track_types.specs.declared.limit.TheConstants.{MAX_OBJECTS}
use Rattle.movement_log.proofs.AlphabetLemmas.{terminal_of-member}
use Rattle.snapshots.proofs.SoundLemmas.{IsGrid-frame}
use Rattle.chart_parts.specs.PeriodWith.{Climbs, AreBlocksByPeriod, ArePlaced, IsBlockOf, blocks_of_period, period_run_length, period_of_blocks}
use Rattle.chart_parts.specs.Header.{frame_of}
use Rattle.chart_parts.specs.PartsOf.{anchor_codes, grammar_of, logged_anchors, logs_in, period_of_chart}
use Rattle.chart_parts.proofs.LogLemmas.{firsts-logged, row_period}
use Rattle.chart_parts.proofs.GrammarLemmas.{firsts-logged_anchors, length-blocks}
use Rattle.chart_parts.proofs.PresenceLemmas.{presence_of-heads, few_anchors}
use Rattle.chart_parts.proofs.CellLemmas.{Contains-block_anchors}
use Rattle.chart_parts.proofs.HeaderLemmas.{IsFrame-frame_of, row-in_grid}
use Rattle.chart_parts.proofs.ObjectLemmas.{Contains-objects_of}

module _ {X : Type 0} (key : X → ℕ) where
  -- how many elements of a key there are before one of another
  abbrev pub run : ℕ → List X → ℕ
  run n xs = prefix_len (of_key key n) xs

  -- none is of a key below all
  filter-above : (n k : ℕ) (xs : List X) → k < n → Climbs n (map key xs) → filter (of_key key k) xs ≡ []
  filter-above n k [] below up = refl
  filter-above n k (x ∷ xs) below up =
      let low : n ≤ key x = up.0 in
      rw (ne_eqb (key x) k (λ e. omega arith)) (filter-above (key x) k xs (omega arith) up.1)

  one_more : (n : ℕ) → 1 + n ≡ suc n
  one_more n = omega arith

  -- those of the least key come first
  pub filter-run : (n : ℕ) (xs : List X) → Climbs n (map key xs) → filter (of_key key n) xs ≡ take (run n xs) xs
  filter-run n [] up = refl
  filter-run n (x ∷ xs) up = elim (cases_Bool (key x == n)) [
    | inl here ↦
        let is : key x ≡ n = grind (arith, nat_tests) in
        rw (here, one_more (run n xs)) (ap (λ ys. x ∷ ys) (filter-run n xs (rw is at up.1)))
    | inr later ↦
        let low : n ≤ key x = up.0 in
        let above : n < key x = grind (arith, nat_tests) in
        rw later (filter-above (key x) n xs above up.1)
  ]

  -- those after them climb from the next key on
  pub Climbs-behind_run : (n : ℕ) (xs : List X) → Climbs n (map key xs) → Climbs (n + 1) (map key (drop (run n xs) xs))
  Climbs-behind_run n [] up = tt
  Climbs-behind_run n (x ∷ xs) up = elim (cases_Bool (key x == n)) [
    | inl here ↦
        let is : key x ≡ n = grind (arith, nat_tests) in
        rw (here, one_more (run n xs)) (Climbs-behind_run n xs (rw is at up.1))
    | inr later ↦
        let low : n ≤ key x = up.0 in
        let above : n + 1 ≤ key x = grind (arith, nat_tests) in
        rw later (above, up.1)
  ]

  -- those of each other key are after them
  pub filter-behind_run : (n k : ℕ) (xs : List X) → n < k →
      filter (of_key key k) xs ≡ filter (of_key key k) (drop (run n xs) xs)
  filter-behind_run n k [] above = refl
  filter-behind_run n k (x ∷ xs) above = elim (cases_Bool (key x == n)) [
    | inl here ↦
        let other : (key x == k) ≡ false = grind (arith, nat_tests) in
        rw (here, one_more (run n xs), other) (filter-behind_run n k xs above)
    | inr later ↦ rw later refl
  ]

-- the period of a block
abbrev pub period_in : Head × ℕ → ℕ
period_in block = block.0.period

-- the first blocks are those of earlier periods
pub record IsBehind (blocks : List (Head × ℕ)) (number start : ℕ) : Type 0 where
  pub by_period : Climbs number (map period_in (drop start blocks))
  pub behind : (k : ℕ) → number ≤ k → blocks_of_period k blocks ≡ blocks_of_period k (drop start blocks)

-- none is of an earlier period than the first
pub behind_none : (blocks : List (Head × ℕ)) → Climbs 0 (map period_in blocks) → IsBehind blocks 0 0
behind_none blocks up = record { by_period = up; behind = λ k low. refl }

run-firsts : (number : ℕ) (blocks : List (Head × ℕ)) →
    period_run_length number (map (λ block. block.0) blocks) ≡ run period_in number blocks
run-firsts number [] = refl
run-firsts number (block ∷ blocks) = rw (run-firsts number blocks) refl

-- of headers and lengths side by side, those of a period come after the ones of earlier periods
module _ (heads : List Head) (lengths : List ℕ) (same : length lengths ≡ length heads) (number start : ℕ)
    (so_far : IsBehind (zip heads lengths) number start) (count : ℕ)
    (counted : count ≡ period_run_length number (take (length heads - start) (drop start heads))) where
  abbrev blocks : List (Head × ℕ)
  blocks = zip heads lengths

  abbrev left : List (Head × ℕ)
  left = drop start blocks

  firsts : map (λ (block : Head × ℕ). block.0) blocks ≡ heads
  firsts = firsts-zip heads lengths same

  -- as many headers are next as blocks
  run_is : count ≡ run period_in number left
  run_is =
      counted ∙ ap (period_run_length number)
      (take_all (length heads - start) (drop start heads) (omega (arith, length-drop start heads)))
      ∙ ap (λ all. period_run_length number (drop start all)) (sym firsts)
      ∙ ap (period_run_length number) (drop-map (λ block. block.0) start blocks) ∙ run-firsts number left

  -- what is part of each block of the period is next
  part-next : {A : Type 0} (part : Head × ℕ → A) (all : List A) → map part blocks ≡ all →
      take (start + count - start) (drop start all) ≡ map part (blocks_of_period number blocks)
  part-next part all is =
      let back : start + count - start ≡ run period_in number left = omega (arith, run_is) in
      rw (← is, back, drop-map part start blocks) (take-map part (run period_in number left) left
      ∙ ap (map part) (sym (filter-run period_in number left so_far.by_period)
      ∙ sym (so_far.behind number (omega arith))))

  pub heads-next : take (start + count - start) (drop start heads)
      ≡ map (λ block. block.0) (blocks_of_period number blocks)
  heads-next = part-next (λ block. block.0) heads firsts

  pub lengths-next : take (start + count - start) (drop start lengths)
      ≡ map (λ block. block.1) (blocks_of_period number blocks)
  lengths-next = part-next (λ block. block.1) lengths (seconds-zip heads lengths same)

  -- and after them are those of later periods
  pub behind_next : IsBehind blocks (number + 1) (start + count)
  behind_next =
      let all : drop (run period_in number left) left ≡ drop (start + run period_in number left) blocks =
      drop-drop (run period_in number left) start blocks in
      rw run_is record {
        by_period = rw (sym all) (Climbs-behind_run period_in number left so_far.by_period);
        behind = λ k above. so_far.behind k (omega arith) ∙ filter-behind_run period_in number k left (omega arith)
            ∙ ap (blocks_of_period k) all;
      }

module _ (frame : Frame) (objects : ℕ) (blocks : List (Head × ℕ)) (are : AreBlocksByPeriod frame objects blocks)
    (number : ℕ) where
  each_in : All (IsBlockOf frame objects) (blocks_of_period number blocks)
  each_in = All-filter (λ block. block.0.period == number) (IsBlockOf frame objects) blocks are.each

  -- the headers of a period
  pub placed_in : number < periods_of frame → ArePlaced frame (map (λ block. block.0) (blocks_of_period number blocks))
  placed_in below = record {
    grid = are.grid;
    few = omega (arith, are.few number below, length-map (blocks_of_period number blocks) (λ block. block.0));
    inside = All-map (λ head. IsInGrid frame.height frame.base head.cell) (λ block. block.0)
        (blocks_of_period number blocks) (λ k d within. (each_in k d within).inside);
  }

  pub indexes_in : All (λ head. head.index < objects) (map (λ block. block.0) (blocks_of_period number blocks))
  indexes_in = All-map (λ head. head.index < objects) (λ block. block.0) (blocks_of_period number blocks)
      (λ k d within. (each_in k d within).index)

-- numbers that do not fall climb from one that is below them all
pub Climbs-rising : {X : Type 0} (key : X → ℕ) (n : ℕ) (xs : List X) → All (λ x. n ≤ key x) xs →
    IsNonDecreasingBy key xs → Climbs n (map key xs)
Climbs-rising key n [] low up = tt
Climbs-rising key n (x ∷ xs) low up = (
  low 0 x (omega arith),
  Climbs-rising key (key x) xs (λ k d within. up 0 (suc k) d (omega arith) (omega arith))
      (λ i j d before within. up (suc i) (suc j) d (omega arith) (omega arith)),
)

-- two lists side by side, of each of which something is made
zip-maps : {X Y U V : Type 0} (f : X → U) (g : Y → V) (xs : List X) (ys : List Y) →
    zip (map f xs) (map g ys) ≡ map (λ both. (f both.0, g both.1)) (zip xs ys)
zip-maps f g [] ys = refl
zip-maps f g (x ∷ xs) [] = refl
zip-maps f g (x ∷ xs) (y ∷ ys) = ap (λ rest. (f x, g y) ∷ rest) (zip-maps f g xs ys)

module _ (chart : ChartView) where
  abbrev count : ℕ
  count = period_count chart.rows chart.period

  -- an anchor's header beside the length of its log
  abbrev pub headed : Row × List ℕ → Head × ℕ
  headed block = (head_of chart block.0, length block.1)

  -- how many symbols each log has
  abbrev pub own_lengths : List ℕ
  own_lengths = map length (grammar_of chart).blocks

  -- the headers beside the logs' lengths
  abbrev pub own_blocks : List (Head × ℕ)
  own_blocks = zip (logs_of chart).heads own_lengths

  pub own_blocks-headed : own_blocks ≡ map headed (logged_anchors chart)
  unfolding logs_of logged_anchors
  own_blocks-headed = zip-maps (head_of chart) length (block_anchors chart) (grammar_of chart).blocks

  -- there are as many lengths as headers
  pub as_many-lengths : length own_lengths ≡ length (logs_of chart).heads
  unfolding logs_of
  as_many-lengths =
      length-map (grammar_of chart).blocks length ∙ length-blocks chart
      ∙ sym (length-map (block_anchors chart) (head_of chart))

  module _ (number : ℕ) where
    abbrev logged : List (Row × List ℕ)
    logged = filter (λ block. row_period chart block.0 == number) (logged_anchors chart)

    in_period : blocks_of_period number own_blocks ≡ map headed logged
    in_period = ap (blocks_of_period number) own_blocks-headed
        ∙ filter-map (λ block. block.0.period == number) headed (logged_anchors chart)

    -- the lengths of a period's logs
    pub lengths-own : map (λ block. block.1) (blocks_of_period number own_blocks) ≡ map length (logs_in chart number)
    unfolding logs_in
    lengths-own =
        ap (map (λ block. block.1)) in_period ∙ map-map (λ (block : Head × ℕ). block.1) headed logged
        ∙ sym (map-map length (λ (block : Row × List ℕ). block.1) logged)

    -- the headers of a period
    pub heads-own : number < count →
        map (λ block. block.0) (blocks_of_period number own_blocks) ≡ map (head_of chart) (anchors_in chart number)
    heads-own below =
        ap (map (λ block. block.0)) in_period
        ∙ map-map (λ (block : Head × ℕ). block.0) headed logged
        ∙ sym (map-map (head_of chart) (λ (block : Row × List ℕ). block.0) logged)
        ∙ ap (map (head_of chart)) (firsts-logged chart number below)

    -- the parts of a period
    pub period_of_blocks-own : IsChart chart → number < count →
        period_of_blocks (frame_of chart) (object_count chart.rows) own_blocks number ≡ period_of_chart chart number
    unfolding period_of_blocks period_of_chart anchor_codes
    period_of_blocks-own is below =
        let anchors : List Row = anchors_in chart number in
        let codes = map-map (λ (head : Head). morton_of (frame_of chart).height (frame_of chart).base head.cell)
        (head_of chart) anchors in
        let offsets = map-map (λ (head : Head). head.offset) (head_of chart) anchors in
        rw (heads-own below, lengths-own, presence_of-heads chart is number, codes, offsets) refl

  -- the parts of all periods
  pub periods_are : IsChart chart →
      map (period_of_blocks (frame_of chart) (object_count chart.rows) own_blocks) (numbers_in (frame_of chart))
      ≡ map (period_of_chart chart) (numbers_in (frame_of chart))
  unfolding frame_of
  periods_are is = map-range_agree _ _ 0 count (λ number low high. period_of_blocks-own number is (omega arith))

module _ (chart : ChartView) (is : IsChart chart) where
  climbs-own : Climbs 0 (map (λ block. block.0.period) (own_blocks chart))
  unfolding block_anchors
  climbs-own =
      let anchors : List Row = block_anchors chart in
      let rising = IsNonDecreasingBy-by_key (row_period chart) 0 (period_count chart.rows chart.period)
      (anchors_of (first_of chart.rows) chart.period chart.rows) in
      let periods : map (λ block. block.0.period) (own_blocks chart) ≡ map (row_period chart) anchors =
      ap (map (λ (block : Head × ℕ). block.0.period)) (own_blocks-headed chart)
      ∙ map-map (λ (block : Head × ℕ). block.0.period) (headed chart) (logged_anchors chart)
      ∙ sym (map-map (row_period chart) (λ (block : Row × List ℕ). block.0) (logged_anchors chart))
      ∙ ap (map (row_period chart)) (firsts-logged_anchors chart) in
      subst (Climbs 0) (sym periods) (Climbs-rising (row_period chart) 0 anchors (λ k d within. omega arith) rising)

  few_in : (number : ℕ) → number < periods_of (frame_of chart) → length (blocks_of_period number (own_blocks chart)) ≤ MAX_OBJECTS
  unfolding frame_of
  few_in number below =
      let blocks = length-map (blocks_of_period number (own_blocks chart)) (λ (block : Head × ℕ). block.0) in
      let anchors = length-map (anchors_in chart number) (head_of chart) in
      omega (arith, ap length (heads-own chart number below), blocks, anchors, few_anchors chart is number, is.objects)

  each_block : All (IsBlockOf (frame_of chart) (object_count chart.rows)) (own_blocks chart)
  unfolding logs_of logged_anchors
  each_block =
      subst (All (IsBlockOf (frame_of chart) (object_count chart.rows))) (sym (own_blocks-headed chart))
      (All-map (IsBlockOf (frame_of chart) (object_count chart.rows)) (headed chart) (logged_anchors chart)
      (λ k d within.
      let block : Row × List ℕ = get_or (logged_anchors chart) k d in
      let among = member_of_zip (block_anchors chart) (grammar_of chart).blocks block.0 block.1
      (Contains-get_or (logged_anchors chart) k d within) in
      let row = Contains-block_anchors chart block.0 among.0 in
      record {
        index = (terminal_of-member (objects_of chart.rows) block.0.object
            (Contains-objects_of chart.rows block.0 row)).0;
        inside = row-in_grid chart is block.0 row;
      }))

  -- the blocks of a chart
  pub AreBlocksByPeriod-own : AreBlocksByPeriod (frame_of chart) (object_count chart.rows) (own_blocks chart)
  AreBlocksByPeriod-own = record {
    grid = IsGrid-frame (frame_of chart) (IsFrame-frame_of chart is);
    by_period = climbs-own;
    few = few_in;
    each = each_block;
  }
