-- Which reads a meeting in some periods needs.
use Rattle.std.proofs.Common.{◌≡◌, ◌<◌, ℕ, ℤ, Bool, true, false, ◌||◌, IsTrue, List, Some, refl, subst, ◌∙◌}
use Rattle.step_count.specs.Reads.{Read, ReadsWithin, ofPeriod, ofRule, ofSymbol}
use Rattle.track_types.specs.Frame.{periods_of}
use Rattle.track_types.specs.declared.parts.Parts.{Parts}
use Rattle.rule_store.specs.Needs.{is_among}
use Rattle.rule_store.specs.View.{RulesView}
use Rattle.log_cursor.specs.Needs.{RulesWithin, search_needs}
use Rattle.log_cursor.specs.Start.{start_at}
use Rattle.log_cursor.specs.declared.start.Start.{Start}
use Rattle.snapshots.specs.IndexCost.{is_met}
use Rattle.snapshots.specs.Needs.{block_places, is_of_block}
use Rattle.object_track.specs.Needs.{is_of_pair}
use Rattle.snapshots.specs.Parts.{anchored_at, index_in, log_in, rules_in, snapshot_in}
use Rattle.snapshots.specs.View.{block_of}
use Rattle.snapshots.specs.declared.anchored.Anchored.{Anchored}
use Rattle.snapshots.proofs.NeedsLemmas.{needs_in-symbol, needs_in-within}
use Rattle.object_track.specs.Met.{AreMet}
use Rattle.track_index.specs.Path.{is_left}
use Rattle.track_index.proofs.NeedsLemmas.{is_left-bounds}
use Rattle.encounter.specs.MeetCost.{block_tree}
use Rattle.encounter.specs.Needs.{meet_needs, pair_needs, period_rule}
use Rattle.encounter.specs.Party.{PartyView, remaining}
use Rattle.encounter.specs.Span.{BlockTree, close_rule, log_tree}
use Rattle.encounter.specs.Turn.{rule_ahead}

either : (x y : Bool) → y ≡ true → (x || y) ≡ true
either true y holds = refl
either false y holds = holds

module _ (may : Read → Bool) (parts : Parts) (left right : ℕ) (from to : ℤ) (reach : ℕ) (periods : ℕ → Bool)
    (within : ReadsWithin (pair_needs parts left right from to reach periods) may) (period : ℕ)
    (known : period < periods_of parts.frame) (passes : IsTrue (periods period)) where
  -- a log of one of the periods, all of whose symbols are those of the two objects
  pair-log : (places : ℕ × ℕ) → ((place : ℕ) → IsTrue (is_among places place)
      → IsTrue (is_of_pair parts (Some left) (Some right) period place))
      → ReadsWithin (search_needs places (period_rule parts left right from to reach period)) may
  pair-log places all (ofPeriod number) none = absurd (cc none)
  pair-log places all (ofRule rule) is =
      within (ofRule rule) (needs_in-symbol parts.frame periods (period_rule parts left right from to reach) period rule known
      passes is)
  pair-log places all (ofSymbol place) is =
      within (ofSymbol place) (needs_in-symbol parts.frame periods (is_of_pair parts (Some left) (Some right)) period place
      known passes (all place is))

  -- the logs of both objects in one of the periods may be read, and the rules that are close there
  pub pair-logs : ReadsWithin (search_needs (block_places (block_of (snapshot_in parts period) left))
      (period_rule parts left right from to reach period)) may
      × ReadsWithin (search_needs (block_places (block_of (snapshot_in parts period) right))
      (period_rule parts left right from to reach period)) may
  pair-logs = (
    pair-log (block_places (block_of (snapshot_in parts period) left)) (λ place is. rw is refl),
    pair-log (block_places (block_of (snapshot_in parts period) right)) (λ place is.
        either (is_of_block parts (Some left) period place) (is_of_block parts (Some right) period place) is),
  )

module _ (parts : Parts) (number : ℕ) where
  -- the parse trees of a block of a period
  pub tree-present : (block : Anchored) (rules : RulesView) (log : List ℕ) (start : Start) (tree : BlockTree) →
      rules ≡ rules_in parts → log ≡ log_in parts block →
      start ≡ start_at (anchored_at parts.frame number block) block.cell → tree ≡ log_tree rules start log →
      tree ≡ block_tree parts number block
  tree-present block rules log start tree of its_log its_start is = is ∙ (rw (of, its_log, its_start) refl)

  -- a rule that is close in what remains of two blocks of a period, of which all remains
  pub rule-present : (left right : ℕ) (from to : ℤ) (reach : ℕ) (one other : Anchored) (mine theirs : PartyView) →
      Some one ≡ block_of (snapshot_in parts number) left → Some other ≡ block_of (snapshot_in parts number) right →
      mine.rules ≡ rules_in parts → remaining mine ≡ block_tree parts number one →
      remaining theirs ≡ block_tree parts number other →
      RulesWithin (rule_ahead from to reach mine theirs) (period_rule parts left right from to reach number)
  rule-present left right from to reach one other mine theirs first second rules left_is right_is rule is =
      let here : IsTrue (close_rule (rules_in parts) from to reach (block_tree parts number one)
      (block_tree parts number other) rule) =
      subst (λ (r : RulesView). IsTrue (close_rule r from to reach (block_tree parts number one)
      (block_tree parts number other) rule)) rules
      (subst (λ (t : BlockTree). IsTrue (close_rule mine.rules from to reach t (block_tree parts number other) rule)) left_is
      (subst (λ (t : BlockTree). IsTrue (close_rule mine.rules from to reach (remaining mine) t rule)) right_is is)) in
      rw (← first, ← second) here

-- fewer periods need no more
pair-within : (parts : Parts) (left right : ℕ) (from to : ℤ) (reach : ℕ) (periods more : ℕ → Bool)
    → ((number : ℕ) → IsTrue (periods number) → IsTrue (more number))
    → ReadsWithin (pair_needs parts left right from to reach periods) (pair_needs parts left right from to reach more)
pair-within parts left right from to reach periods more all (ofPeriod period) is = all period is
pair-within parts left right from to reach periods more all (ofRule rule) is =
    let test = period_rule parts left right from to reach in
    needs_in-within parts.frame periods test more test all (λ number place known passes holds. holds) (ofSymbol rule) is
pair-within parts left right from to reach periods more all (ofSymbol place) is =
    let test = is_of_pair parts (Some left) (Some right) in
    needs_in-within parts.frame periods test more test all (λ number place known passes holds. holds) (ofSymbol place) is

-- the periods that a window meets
pub pair-met : (parts : Parts) (left right one other : ℕ) (from to : ℤ) (reach next behind : ℕ)
    → Some one ≡ index_in parts.objects left → Some other ≡ index_in parts.objects right
    → AreMet parts.frame from to next behind
    → ReadsWithin (pair_needs parts one other from to reach (is_left next behind))
    (meet_needs parts left right from to reach)
pair-met parts left right one other from to reach next behind first second met =
    rw (← first, ← second)
    (pair-within parts one other from to reach (is_left next behind) (is_met parts.frame from to)
    (λ number left. let its = is_left-bounds next behind number left in met.met number its.0 its.1))
