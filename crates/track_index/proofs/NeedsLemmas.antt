-- Which reads the walk of a path needs, where a test says which rules' boxes it opens.
use Rattle.std.proofs.Common.{◌≡◌, ℕ, ◌+◌, ◌<◌, ◌≤◌, ℤ, Bool, true, false, ◌||◌, IsTrue, List, [], ◌∷◌, Option, None, Some, arith, ap, inl, inr, refl, subst, sym, ◌∙◌}
use Rattle.std.proofs.lemmas.Bool.Decides.{nat_tests}
use Rattle.std.specs.Prelude.{◌&&◌, filter, if◌then◌else◌, nat_le, nat_lt}
use Rattle.std.specs.List.{list_any}
use Rattle.std.specs.Option.{is_some}
use Rattle.std.proofs.lemmas.Bool.{and_parts, or_cases}
use Rattle.std.proofs.lemmas.List.Folds.{Any-from_list_any}
use Rattle.step_count.specs.Reads.{Read, ReadsWithin, ofPeriod, ofRule, ofSymbol}
use Rattle.track_types.specs.Frame.{periods_of}
use Rattle.track_types.specs.declared.cell.Cell.{Cell}
use Rattle.track_types.specs.declared.cell_box.CellBox.{CellBox}
use Rattle.track_types.specs.declared.parts.Parts.{Parts}
use Rattle.track_types.specs.declared.region.Region.{Region}
use Rattle.rule_store.specs.Boxes.{bounding_box_of}
use Rattle.rule_store.specs.Cells.{displacement_of, moved}
use Rattle.rule_store.specs.Needs.{is_among}
use Rattle.rule_store.specs.Nodes.{meets, nodes_in}
use Rattle.rule_store.specs.View.{RulesView}
use Rattle.rule_store.proofs.NeedsLemmas.{is_among-none}
use Rattle.log_cursor.specs.Needs.{RulesWithin, walk_needs, walk_rule}
use Rattle.log_cursor.specs.Start.{start_at}
use Rattle.log_cursor.specs.Touching.{is_rule_of, touches_at, touching_rule}
use Rattle.log_cursor.specs.Turn.{is_opening, opening_rule}
use Rattle.log_cursor.specs.Walk.{WalkView, at_rest, terminal_values, walk_from}
use Rattle.log_cursor.specs.declared.start.Start.{Start}
use Rattle.log_cursor.proofs.NeedsLemmas.{boxed, walk_rule-boxed, walk_rule-none}
use Rattle.snapshots.specs.IndexCost.{is_met}
use Rattle.snapshots.specs.Needs.{block_places, is_of_block, needs_in}
use Rattle.snapshots.specs.Parts.{anchored_at, log_in, numbers_in, rules_in, snapshot_in}
use Rattle.snapshots.specs.SoundParts.{IsValid}
use Rattle.snapshots.specs.View.{block_of}
use Rattle.snapshots.specs.declared.anchored.Anchored.{Anchored}
use Rattle.snapshots.proofs.BlockFactsLemmas.{IsBlock-from_block_of}
use Rattle.snapshots.proofs.NeedsLemmas.{needs_in-symbol, needs_in-within, object-within}
use Rattle.snapshots.proofs.ReachLemmas.{IsSnapshot-valid}
use Rattle.object_track.specs.Met.{AreMet}
use Rattle.object_track.specs.Needs.{track_needs, track_rule, window_rule}
use Rattle.slice_search.specs.Needs.{interval_needs, period_rule}
use Rattle.slice_search.proofs.NeedsLemmas.{block_rule-within}
use Rattle.track_index.specs.Path.{is_left, left_needs, rest_needs}

-- the next period is left
pub is_left-next : (next behind : ℕ) → next < behind → is_left next behind next ≡ true
is_left-next next behind less = grind (arith, nat_tests, less)

-- so is each of those that are
pub is_left-within : (next behind period : ℕ) → next ≤ period → period < behind → is_left next behind period ≡ true
is_left-within next behind period low high = grind (arith, nat_tests, low, high)

-- what is left lies between
pub is_left-bounds : (next behind period : ℕ) → is_left next behind period ≡ true → (next ≤ period) × (period < behind)
is_left-bounds next behind period left =
    let both = and_parts (nat_le next period) (nat_lt period behind) left in
    (grind (arith, nat_tests, both.0), grind (arith, nat_tests, both.1))

-- a period that is left after the next one was left before
pub is_left-more : (next behind period : ℕ) → is_left (next + 1) behind period ≡ true → is_left next behind period ≡ true
is_left-more next behind period left =
    let its = is_left-bounds (next + 1) behind period left in
    is_left-within next behind period (omega (arith, its.0)) its.1

-- either of two tests
or-left : (x y : Bool) → x ≡ true → (x || y) ≡ true
or-left x y holds = rw holds refl

or-right : (x y : Bool) → y ≡ true → (x || y) ≡ true
or-right true y holds = refl
or-right false y holds = holds

-- the first of some passes, or one of the others
any-step : {X : Type 0} (test : X → Bool) (few many : Bool) (x : X) (these those : List X) → (IsTrue few → IsTrue many)
    → (IsTrue (list_any test these) → IsTrue (list_any test those))
    → IsTrue (list_any test (if few then x ∷ these else these)) → IsTrue (list_any test (if many then x ∷ those else those))
any-step test false false x these those one others holds = others holds
any-step test false true x these those one others holds = or-right (test x) (list_any test those) (others holds)
any-step test true false x these those one others holds = absurd (cc (one refl))
any-step test true true x these those one others holds = elim (or_cases (test x) _ holds) [
  | inl first ↦ or-left (test x) (list_any test those) first
  | inr other ↦ or-right (test x) (list_any test those) (others other)
]

-- what passes a test passes it among more
any-wider : {X : Type 0} (test few many : X → Bool) → ((x : X) → IsTrue (few x) → IsTrue (many x)) → (xs : List X)
    → IsTrue (list_any test (filter few xs)) → IsTrue (list_any test (filter many xs))
any-wider test few many all [] none = none
any-wider test few many all (x ∷ xs) holds =
    any-step test (few x) (many x) x (filter few xs) (filter many xs) (all x) (any-wider test few many all xs) holds

-- a walk opens by a test what it opens by that and the test for a box
opening_rule-boxed : (rules : RulesView) (may : Cell → Option CellBox → Bool) (from to : ℤ) (start : Start) (symbols : List ℕ)
    → RulesWithin (opening_rule rules (boxed may) from to start symbols) (opening_rule rules may from to start symbols)
unfolding opening_rule
opening_rule-boxed rules may from to start symbols rule opens =
    any-wider (is_rule_of rules rule) (is_opening rules (boxed may) from to start) (is_opening rules may from to start)
    (λ node both.
    let hull : Option CellBox = bounding_box_of (terminal_values rules node.inside) in
    let cell : Cell = moved start.cell (displacement_of (terminal_values rules node.before)) in
    let parts = and_parts (meets start.instant from to node) (boxed may cell hull) both in
    let passes : may cell hull ≡ true = (and_parts (is_some hull) (may cell hull) parts.1).1 in
    rw (parts.0, passes) refl)
    (nodes_in rules symbols) opens

-- no place passes in no period
none-passes : (parts : Parts) (periods : ℕ → Bool) (symbols : ℕ → ℕ → Bool) → ((number : ℕ) → IsTrue (periods number) → ⊥)
    → (place : ℕ) → IsTrue (needs_in parts.frame periods symbols (ofSymbol place)) → ⊥
none-passes parts periods symbols never place is =
    let any = Any-from_list_any (λ n. periods n && symbols n place) (numbers_in parts.frame) is in
    never any.1 (and_parts (periods any.1) (symbols any.1 place) any.4).0

-- the walk over the log of a block of a period
abbrev pub placed_walk : Parts → ℤ → ℤ → ℕ → Anchored → WalkView
placed_walk parts from to number block = walk_from (rules_in parts) (block_places (Some block)) (log_in parts block)
    (start_at (anchored_at parts.frame number block) block.cell) from to

-- a walk that was begun over a block where its log was placed
pub placed-begun : (stores parts : Parts) → parts ≡ stores → (from to low high : ℤ) → low ≡ from → high ≡ to → (number : ℕ)
    (block : Anchored) (walk : WalkView) (rules : RulesView) (places : ℕ × ℕ) (log : List ℕ) (start : Start)
    → rules ≡ rules_in stores → places ≡ block_places (Some block) → log ≡ log_in stores block
    → start ≡ start_at (anchored_at stores.frame number block) block.cell → walk ≡ walk_from rules places log start low high
    → walk ≡ placed_walk parts from to number block
placed-begun stores parts its from to low high is_from is_to number block walk rules places log start of its_places its_log
    its_start begun =
    begun ∙ (rw (of, its_places, its_log, its_start, is_from, is_to)
    (ap (λ (p : Parts). placed_walk p from to number block) (sym its)))

-- a rule that a path opens in a block by the region is one of the period's that touch it
region-rule : (parts : Parts) → IsValid parts → (from to : ℤ) (region : Region) (index number : ℕ)
    → number < periods_of parts.frame → (found : Option Anchored) → block_of (snapshot_in parts number) index ≡ found
    → RulesWithin (window_rule (touches_at region) parts from to number found) (period_rule parts number from to region)
unfolding opening_rule touching_rule
region-rule parts valid from to region index number known None is rule none = absurd (cc none)
region-rule parts valid from to region index number known (Some block) is rule opens =
    block_rule-within parts valid number known from to region block
    (IsBlock-from_block_of (snapshot_in parts number) (IsSnapshot-valid parts valid number known) index block is) rule opens

-- a walk with nothing left makes no read
module _ (may : Cell → Option CellBox → Bool) where
  at_rest-none : (rules : RulesView) (read : Read) → IsTrue (walk_needs may (at_rest rules (0, 0)) read) → ⊥
  at_rest-none rules (ofPeriod period) none = cc none
  at_rest-none rules (ofRule rule) is = cc (is, walk_rule-none may (at_rest rules (0, 0)) rule refl)
  at_rest-none rules (ofSymbol place) is = is_among-none place is ⊥

module _ (may : Cell → Option CellBox → Bool) (parts : Parts) (from to : ℤ) (index : ℕ) where
  -- a rule is opened in the log of the object's block of a period
  abbrev opens_at : ℕ → ℕ → Bool
  opens_at number rule = window_rule may parts from to number (block_of (snapshot_in parts number) index) rule

  -- an object's track in some of the periods
  track-within : (few many : ℕ → Bool) → ((number : ℕ) → IsTrue (few number) → IsTrue (many number))
      → ReadsWithin (track_needs may parts few from to (Some index)) (track_needs may parts many from to (Some index))
  unfolding track_rule
  track-within few many all (ofPeriod period) is = all period is
  track-within few many all (ofRule rule) is =
      needs_in-within parts.frame few opens_at many opens_at all (λ number place known passes opens. opens) (ofSymbol rule) is
  track-within few many all (ofSymbol place) is =
      needs_in-within parts.frame few (is_of_block parts (Some index)) many (is_of_block parts (Some index)) all
      (λ number place known passes is. is) (ofSymbol place) is

  -- where no period is left
  pub left-none : (next behind : ℕ) → behind ≡ 0 → (those : Read → Bool)
      → ReadsWithin (left_needs may parts index from to next behind) those
  unfolding track_rule
  left-none next behind none those read is =
      let nothing : (number : ℕ) → IsTrue (is_left next behind number) → ⊥ =
      λ number left. omega (arith, (is_left-bounds next behind number left).1, none) in
      absurd (elim read as (λ r. IsTrue (left_needs may parts index from to next behind r) → ⊥) [
        | ofPeriod period ↦ λ left. nothing period left
        | ofRule rule ↦ λ left. none-passes parts (is_left next behind) opens_at nothing rule left
        | ofSymbol place ↦ λ left. none-passes parts (is_left next behind) (is_of_block parts (Some index)) nothing place left
      ] is)

  -- the periods that a window meets
  pub left-met : (next behind : ℕ) → AreMet parts.frame from to next behind
      → ReadsWithin (left_needs may parts index from to next behind)
      (track_needs may parts (is_met parts.frame from to) from to (Some index))
  left-met next behind met =
      track-within (is_left next behind) (is_met parts.frame from to)
      (λ number left. let its = is_left-bounds next behind number left in met.met number its.0 its.1)

  module _ (next behind : ℕ) where
    -- the reads of the block that was begun
    pub walk-log : (block : WalkView) → ReadsWithin (walk_needs may block) (rest_needs may block parts index from to next behind)
    walk-log block read needed =
        or-left (walk_needs may block read) (left_needs may parts index from to next behind read) needed

    -- those of the periods that are left
    pub walk-left : (block : WalkView)
        → ReadsWithin (left_needs may parts index from to next behind) (rest_needs may block parts index from to next behind)
    walk-left block read needed =
        or-right (walk_needs may block read) (left_needs may parts index from to next behind read) needed

    -- before the first block no log is walked over
    pub walk-begun : (block : WalkView) (rules : RulesView) → block ≡ at_rest rules (0, 0)
        → ReadsWithin (rest_needs may block parts index from to next behind) (left_needs may parts index from to next behind)
    walk-begun block rules none read needed = elim (or_cases (walk_needs may block read) _ needed) [
      | inl log ↦ absurd (at_rest-none may rules read (subst (λ (w : WalkView). IsTrue (walk_needs may w read)) none log))
      | inr left ↦ left
    ]

    -- the next period is still to come
    pub walk-drawn : (few many : WalkView) → ReadsWithin (walk_needs may few) (walk_needs may many)
        → ReadsWithin (rest_needs may few parts index from to next behind) (rest_needs may many parts index from to next behind)
    walk-drawn few many fewer read needed = elim (or_cases (walk_needs may few read) _ needed) [
      | inl log ↦ walk-log many read (fewer read log)
      | inr left ↦ walk-left many read left
    ]

    module _ (within : behind ≤ periods_of parts.frame) (less : next < behind) where
      -- what is needed after the next period is needed before
      left-more : ReadsWithin (left_needs may parts index from to (next + 1) behind) (left_needs may parts index from to next behind)
      left-more = track-within (is_left (next + 1) behind) (is_left next behind) (is_left-more next behind)

      -- the next period has no block of the object
      pub walk-absent : (few many : WalkView) → ReadsWithin (walk_needs may few) (walk_needs may many)
          → ReadsWithin (rest_needs may few parts index from to (next + 1) behind)
          (rest_needs may many parts index from to next behind)
      walk-absent few many fewer read needed = elim (or_cases (walk_needs may few read) _ needed) [
        | inl log ↦ walk-log many read (fewer read log)
        | inr left ↦ walk-left many read (left-more read left)
      ]

      -- the log of the object's block in the next period
      log-next : (block : Anchored) → Some block ≡ block_of (snapshot_in parts next) index → (walk : WalkView)
          → walk ≡ placed_walk parts from to next block
          → ReadsWithin (walk_needs may walk) (left_needs may parts index from to next behind)
      unfolding track_rule
      log-next block has walk same (ofPeriod period) none = absurd (cc none)
      log-next block has walk same (ofRule rule) is =
          needs_in-symbol parts.frame (is_left next behind) opens_at next rule (omega (arith, within, less))
          (is_left-next next behind less)
          (subst (λ (b : Option Anchored). IsTrue (window_rule may parts from to next b rule)) has
          (opening_rule-boxed (rules_in parts) may from to (start_at (anchored_at parts.frame next block) block.cell)
          (log_in parts block) rule
          (subst IsTrue (walk_rule-boxed may from to (start_at (anchored_at parts.frame next block) block.cell) (log_in parts block)
          (placed_walk parts from to next block) rule refl)
          (subst (λ (w : WalkView). IsTrue (walk_rule may w rule)) same is))))
      log-next block has walk same (ofSymbol place) is =
          needs_in-symbol parts.frame (is_left next behind) (is_of_block parts (Some index)) next place
          (omega (arith, within, less)) (is_left-next next behind less)
          (subst (λ (p : ℕ × ℕ). IsTrue (is_among p place)) (ap (λ (w : WalkView). w.places) same ∙ ap block_places has) is)

      -- that block is walked over
      pub walk-next : (few many : WalkView) (block : Anchored) → Some block ≡ block_of (snapshot_in parts next) index
          → few ≡ placed_walk parts from to next block
          → ReadsWithin (rest_needs may few parts index from to (next + 1) behind)
          (rest_needs may many parts index from to next behind)
      walk-next few many block has same read needed = elim (or_cases (walk_needs may few read) _ needed) [
        | inl log ↦ walk-left many read (log-next block has few same read log)
        | inr left ↦ walk-left many read (left-more read left)
      ]

-- a path that is drawn for a region reads of its window what a search of the region does
pub met-region : (parts : Parts) → IsValid parts → (from to : ℤ) (region : Region) (index : ℕ)
    → ReadsWithin (track_needs (touches_at region) parts (is_met parts.frame from to) from to (Some index))
    (interval_needs parts from to region)
unfolding track_rule
met-region parts valid from to region index (ofPeriod period) is = is
met-region parts valid from to region index (ofRule rule) is =
    let met = is_met parts.frame from to in
    needs_in-within parts.frame met (opens_at (touches_at region) parts from to index) met
    (λ number other. period_rule parts number from to region other) (λ number passes. passes)
    (λ number other known passes opens. region-rule parts valid from to region index number known
    (block_of (snapshot_in parts number) index) refl other opens) (ofSymbol rule) is
met-region parts valid from to region index (ofSymbol place) is =
    object-within parts valid (Some index) (is_met parts.frame from to) (ofSymbol place) is
