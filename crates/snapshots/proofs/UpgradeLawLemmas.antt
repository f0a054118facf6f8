-- The newest version of parts: the same cells in each period, so the same blocks and the same chart, and valid parts.
use Rattle.std.proofs.Common.{◌≡◌, ℕ, zero, suc, ◌+◌, ◌^◌, ◌<◌, ◌≤◌, List, [], ◌∷◌, length, get_or, map, take, All}
use Rattle.std.proofs.Common.{None, Some, Option, IfSome, refl, ap, sym, ◌∙◌, subst, arith}
use Rattle.std.specs.List.{filter_map, flat_map, range_with_len, sum_by}
use Rattle.std.proofs.lemmas.List.{get_or-map, get_or_default, length-map, take-map}
use Rattle.std.proofs.lemmas.List.Elements.{All-from_get_or, All-map, All-weaker}
use Rattle.list_laws.proofs.FlatLemmas.{sum_by-map}
use Rattle.list_laws.proofs.NumberLemmas.{least_power}
use Rattle.track_types.specs.Chart.{ChartView}
use Rattle.track_types.specs.Frame.{IsFrame, periods_of, wide_of}
use Rattle.track_types.specs.PartsForm.{IsShaped, IsShapedPeriod, width_for, symbol_width}
use Rattle.track_types.specs.declared.cell.Cell.{Cell}
use Rattle.track_types.specs.declared.cell_box.CellBox.{CellBox}
use Rattle.track_types.specs.declared.frame.Frame.{Frame}
use Rattle.track_types.specs.declared.limit.TheConstants.{MAX_TREE}
use Rattle.track_types.specs.declared.parts.Parts.{Parts}
use Rattle.track_types.specs.declared.row.Row.{Row}
use Rattle.k2_tree.specs.Tree.{Tree, codes_of, tree_bits, IsTree}
use Rattle.k2_tree.specs.Flaws.{StandsFor}
use Rattle.k2_tree.proofs.BuiltLemmas.{few_bits}
use Rattle.k2_tree.proofs.CellLemmas.{tree_of-StandsFor}
use Rattle.rule_store.specs.View.{RulesView}
use Rattle.snapshots.specs.Parts.{chart_in, last_in, no_period, period_at, rows_in, row_of, rules_in, snapshot_in, start_in}
use Rattle.snapshots.specs.Parts.{stops_in, stops_in_block, symbols_of}
use Rattle.snapshots.specs.Sound.{IsSnapshot, IsSoundPeriod}
use Rattle.snapshots.specs.SoundParts.{AreSoundLogs, IsInGridAt, IsSound, IsSoundLog, IsValid}
use Rattle.snapshots.specs.Upgrade.{newest, newest_tree, upgrade_of, upgraded_parts, upgraded_period}
use Rattle.snapshots.specs.View.{SnapshotView, all_blocks, block_of, tree_in}
use Rattle.snapshots.specs.declared.anchored.Anchored.{Anchored}
use Rattle.snapshots.proofs.ReachLemmas.{IsSnapshot-valid}
use Rattle.snapshots.proofs.SoundLemmas.{wide_of-fits}
use Rattle.snapshots.proofs.UpgradeLemmas.{few_cells}

-- the snapshot of a period in the newest version
abbrev pub upgraded_view : SnapshotView → SnapshotView
upgraded_view view = record {
  frame = newest view.frame;
  number = view.number;
  objects = view.objects;
  start = view.start;
  parts = upgraded_parts view;
}

-- functions that give the same make the same of a list
filter_map-agree : {X Y : Type 0} (f g : X → Option Y) → ((x : X) → f x ≡ g x) → (xs : List X)
    → filter_map f xs ≡ filter_map g xs
filter_map-agree f g same [] = refl
filter_map-agree f g same (x ∷ xs) = rw (same x, filter_map-agree f g same xs) refl

flat_map-range_agree : {Y : Type 0} (f g : ℕ → List Y) (a n : ℕ) → ((i : ℕ) → a ≤ i → i < a + n → f i ≡ g i)
    → flat_map f (range_with_len a n) ≡ flat_map g (range_with_len a n)
flat_map-range_agree f g a zero same = refl
flat_map-range_agree f g a (suc n) same =
    let rest = flat_map-range_agree f g (a + 1) n (λ i low high. same i (omega arith) (omega arith)) in
    rw (same a (omega arith) (omega arith), rest) refl

-- a placed box is in the same grid
placed-upgraded : (frame : Frame) (cell : Cell) (hull : Option CellBox) → IfSome hull (IsInGridAt frame cell)
    → IfSome hull (IsInGridAt (newest frame) cell)
placed-upgraded frame cell None is = tt
placed-upgraded frame cell (Some hull) is =
    record { left = is.left; right = is.right; below = is.below; above = is.above }

-- a sound log stays so
log-upgraded : (frame : Frame) (rules : RulesView) (number : ℕ) (block : Anchored)
    → IsSoundLog frame rules number block → IsSoundLog (newest frame) rules number block
log-upgraded frame rules number block is =
    record { placed = λ place within. placed-upgraded frame _ _ (is.placed place within); lasts = is.lasts }

-- a header stays in its ranges
header-upgraded : (frame : Frame) → IsFrame frame → IsFrame (newest frame)
header-upgraded frame is = record {
  known = omega arith;
  newest = omega arith;
  periods = is.periods;
  some = is.some;
  limit = is.limit;
  low = is.limit;
  long = is.long;
  short = is.short;
  begins = is.begins;
  ends = is.ends;
  columns = is.columns;
  lines = is.lines;
  cells = is.cells;
  ticks = is.ticks;
}

module _ (view : SnapshotView) (is : IsSnapshot view) where
  abbrev frame : Frame
  frame = view.frame

  abbrev old : Tree
  old = tree_in view

  -- the tree of the same cells
  abbrev pub own : Tree
  own = newest_tree frame view.parts.tree

  -- it is one
  pub IsTree-newest : IsTree own
  IsTree-newest =
      let tree = is.sound.tree.is_tree in
      record { grid = tree.grid; fits = wide_of-fits (newest frame); inside = tree.inside; codes = tree.codes }

  -- its bits are few
  pub few-upgraded : length (upgraded_parts view).tree ≤ MAX_TREE
  unfolding tree_bits
  few-upgraded =
      let long : length (codes_of own) ≡ length old.cells = length-map old.cells _ in
      few_bits frame.height (wide_of (newest frame)) (codes_of own) IsTree-newest.grid.limit
      (wide_of-fits (newest frame)) (omega (arith, long, few_cells view is))

  -- and stand for it
  stands : StandsFor frame.height (wide_of (newest frame)) frame.base (upgraded_parts view).tree own
  stands = record { high = refl; levels = refl; from = refl; is_tree = IsTree-newest; same = refl }

  pub tree-upgraded : tree_in (upgraded_view view) ≡ own
  tree-upgraded = tree_of-StandsFor frame.height (wide_of (newest frame)) frame.base (upgraded_parts view).tree own stands

  same_cells : (tree_in (upgraded_view view)).cells ≡ old.cells
  same_cells = ap (λ (t : Tree). t.cells) tree-upgraded

  -- each object has the same block
  pub block_of-upgraded : (index : ℕ) → block_of (upgraded_view view) index ≡ block_of view index
  block_of-upgraded index = rw same_cells refl

  pub all_blocks-upgraded : all_blocks (upgraded_view view) ≡ all_blocks view
  unfolding all_blocks
  all_blocks-upgraded =
      filter_map-agree (block_of (upgraded_view view)) (block_of view) block_of-upgraded (range_with_len 0 view.objects)

  -- the period stays sound
  pub IsSound-upgraded : IsSoundPeriod (upgraded_view view)
  IsSound-upgraded = record {
    offsets = is.sound.offsets;
    tree = subst (StandsFor frame.height (wide_of (newest frame)) frame.base (upgraded_parts view).tree) (sym tree-upgraded)
        stands;
    cells = is.sound.cells ∙ ap length (sym same_cells);
    last = is.sound.last;
    permutes = is.sound.permutes;
    order = is.sound.order;
  }

  -- and so do its logs
  pub AreSoundLogs-upgraded : (rules : RulesView) → AreSoundLogs rules view → AreSoundLogs rules (upgraded_view view)
  AreSoundLogs-upgraded rules sound =
      subst (All (IsSoundLog (newest frame) rules view.number)) (sym all_blocks-upgraded)
      (All-weaker (IsSoundLog frame rules view.number) (IsSoundLog (newest frame) rules view.number)
      (λ block its. log-upgraded frame rules view.number block its) (all_blocks view) sound)

module _ (parts : Parts) (valid : IsValid parts) where
  abbrev header : Frame
  header = parts.frame

  -- logs stand where they stood
  start_in-upgrade : (number : ℕ) → start_in (upgrade_of parts) number ≡ start_in parts number
  unfolding start_in upgrade_of
  start_in-upgrade number =
      ap (sum_by symbols_of) (take-map (upgraded_period header) number parts.periods)
      ∙ sum_by-map symbols_of (upgraded_period header) (take number parts.periods)

  -- each period's snapshot in the newest version
  pub snapshot_in-upgrade : (number : ℕ) → number < periods_of header
      → snapshot_in (upgrade_of parts) number ≡ upgraded_view (snapshot_in parts number)
  unfolding upgrade_of
  snapshot_in-upgrade number within =
      let period : period_at (upgrade_of parts).periods number ≡ upgraded_period header (period_at parts.periods number) =
      get_or-map (upgraded_period header) parts.periods number no_period no_period
      (omega (arith, valid.shaped.periods, within)) in
      rw (start_in-upgrade number, period) refl

  abbrev its : (number : ℕ) → number < periods_of header → IsSnapshot (snapshot_in parts number)
  its = IsSnapshot-valid parts valid

  -- the parts are sound
  pub IsSound-upgrade : IsSound (upgrade_of parts)
  unfolding upgrade_of
  IsSound-upgrade = record {
    rules = valid.sound.rules;
    total = start_in-upgrade (periods_of header) ∙ valid.sound.total;
    periods = λ number within.
        subst IsSoundPeriod (sym (snapshot_in-upgrade number within))
        (IsSound-upgraded (snapshot_in parts number) (its number within));
    logs = λ number within.
        subst (AreSoundLogs (rules_in parts)) (sym (snapshot_in-upgrade number within))
        (AreSoundLogs-upgraded (snapshot_in parts number) (its number within) (rules_in parts)
        (valid.sound.logs number within));
  }

  -- each period has its form
  shaped-upgrade : All (IsShapedPeriod (length parts.objects)) (upgrade_of parts).periods
  unfolding upgrade_of
  shaped-upgrade =
      All-map (IsShapedPeriod (length parts.objects)) (upgraded_period header) parts.periods (λ number d within.
      let below : number < periods_of header = omega (arith, valid.shaped.periods, within) in
      let shaped = valid.shaped.each number d within in
      let same : period_at parts.periods number ≡ get_or parts.periods number d = get_or_default parts.periods number no_period d within in
      record {
        presence = shaped.presence;
        offsets = shaped.offsets;
        bits = subst (λ period. length (upgraded_period header period).tree ≤ MAX_TREE) same
            (few-upgraded (snapshot_in parts number) (its number below));
        lasts = shaped.lasts;
        perm = shaped.perm;
        lengths = shaped.lengths;
        short_offsets = shaped.short_offsets;
        short_perm = shaped.short_perm;
        short_lengths = shaped.short_lengths;
      })

  -- each stored symbol is one of the grammar's, so that the bits of a packed one are enough
  narrow_symbols : All (λ symbol. symbol < 2 ^ symbol_width parts) parts.symbols
  unfolding width_for
  narrow_symbols =
      let known : ℕ = length parts.alphabet + length parts.rules in
      let fits = least_power 26 known (omega arith) (omega (arith, valid.shaped.few_values, valid.shaped.few_rules)) in
      All-from_get_or (λ symbol. symbol < 2 ^ symbol_width parts) parts.symbols 0 (λ place within.
      omega (arith, fits.1, valid.sound.rules.symbols place within))

  -- and so have the parts
  pub IsShaped-upgrade : IsShaped (upgrade_of parts)
  unfolding upgrade_of
  IsShaped-upgrade =
      let is = valid.shaped in
      record {
        header = header-upgraded header is.header;
        some = is.some;
        few = is.few;
        blocks = is.blocks;
        objects = is.objects;
        short_objects = is.short_objects;
        alphabet = is.alphabet;
        long_alphabet = is.long_alphabet;
        few_values = is.few_values;
        few_rules = is.few_rules;
        short_rules = is.short_rules;
        periods = length-map parts.periods (upgraded_period header) ∙ is.periods;
        each = shaped-upgrade;
        few_symbols = is.few_symbols;
        short_symbols = is.short_symbols;
        narrow_symbols = λ new. narrow_symbols;
      }

  -- the parts are valid
  pub IsValid-upgrade : IsValid (upgrade_of parts)
  IsValid-upgrade = record { shaped = IsShaped-upgrade; sound = IsSound-upgrade }

  -- a block has the same stops
  block-stops : (number : ℕ) (block : Option Anchored)
      → stops_in_block (upgrade_of parts) number block ≡ stops_in_block parts number block
  unfolding upgrade_of
  block-stops number None = refl
  block-stops number (Some block) = refl

  -- so an object has the same stops in each period
  stops-upgrade : (index number : ℕ) → number < periods_of header
      → stops_in (upgrade_of parts) index number ≡ stops_in parts index number
  unfolding stops_in
  stops-upgrade index number within =
      ap (λ view. stops_in_block (upgrade_of parts) number (block_of view index)) (snapshot_in-upgrade number within)
      ∙ ap (stops_in_block (upgrade_of parts) number)
      (block_of-upgraded (snapshot_in parts number) (its number within) index)
      ∙ block-stops number (block_of (snapshot_in parts number) index)

  -- and the same rows
  rows-upgrade : (index : ℕ) → rows_in (upgrade_of parts) index ≡ rows_in parts index
  unfolding rows_in upgrade_of
  rows-upgrade index =
      ap (map (row_of (get_or parts.objects index 0)))
      (flat_map-range_agree (stops_in (upgrade_of parts) index) (stops_in parts index) 0 (periods_of header)
      (λ number low within. stops-upgrade index number (omega arith)))

  -- the parts have the same chart
  pub chart_in-upgrade : chart_in (upgrade_of parts) ≡ chart_in parts
  unfolding chart_in upgrade_of
  chart_in-upgrade =
      ap chart_with (flat_map-range_agree (rows_in (upgrade_of parts)) (rows_in parts) 0 (length parts.objects)
      (λ index low within. rows-upgrade index))
    where
      chart_with : List Row → ChartView
      chart_with rows = record {
        rows = rows;
        first = header.first;
        last = last_in header;
        period = header.period;
        cell = header.cell;
        tick = header.tick;
      }
