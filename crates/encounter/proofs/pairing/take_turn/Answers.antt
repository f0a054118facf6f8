use Rattle.std.proofs.Common.{◌≡◌, ℕ, ℤ, Bool, ◌≤ℤ◌, to_z, of_z, w64, true, false, refl, sym, ◌∙◌, arith}
use Rattle.std.proofs.lemmas.Int.{ints}
use Rattle.step_count.specs.Reads.{Read, ReadsWithin, ofRule}
use Rattle.rule_store.specs.Log.{stop_at}
use Rattle.log_cursor.specs.Needs.{search_needs, symbol_needs}
use Rattle.log_cursor.proofs.NeedsLemmas.{search-same}
use Rattle.encounter.specs.Span.{is_close, Span}
use Rattle.encounter.specs.NodeSpan.{span_of_node}
use Rattle.encounter.specs.declared.block_node.BlockNode.{BlockNode}
use Rattle.encounter.proofs.TurnLemmas.{ended-left, ended-right, found-both, named-left, named-right, opened-left, opened-right, over-left, over-right, passed-left, passed-right}
use Rattle.encounter.proofs.pairing.take_turn.Given.{Over}
use Rattle.encounter.proofs.pairing.take_turn.Goals as goal
use Rattle.encounter.proofs.pairing.take_turn.Goals.{After-may_meet, else-one-other, then-one-other, then-window-one-via-else-window-one+then-window-other, then-window-one-via-then-window-one}

-- closeness does not look at the terminals that a node stands for
close_same : (from to : ℤ) (reach : ℕ) (one other : Span) (part next : BlockNode) → part.begin ≡ one.begin →
    part.end ≡ one.end → part.area ≡ one.area → next.begin ≡ other.begin → next.end ≡ other.end → next.area ≡ other.area →
    is_close from to reach (span_of_node part) (span_of_node next) ≡ is_close from to reach one other
close_same from to reach one other part next begin end area first last box = rw (begin, end, area, first, last, box) refl

-- what the test for two nodes says of the two blocks
close_is : (g : Over) (c : After-may_meet g) → c.may_meet.result
    ≡ is_close c.args.window.now.from c.args.window.now.to c.args.window.now.reach c.args.left.now.top c.args.right.now.top
close_is g c =
    c.may_meet.ensures
    ∙ close_same c.args.window.now.from c.args.window.now.to c.args.window.now.reach c.args.left.now.top
    c.args.right.now.top c.node-one.result c.node-other.result c.node-one.ensures.begin c.node-one.ensures.end
    c.node-one.ensures.area c.node-other.ensures.begin c.node-other.ensures.end c.node-other.ensures.area

neither : (one other : Bool) → (one ≡ true → other ≡ true) → other ≡ false → one ≡ false
neither true true more less = less
neither true false more less = sym (more refl)
neither false other more less = refl

-- the symbols of a log are among what a search may read of it
symbols-of : (may : Read → Bool) (places : ℕ × ℕ) (rules : ℕ → Bool) → ReadsWithin (search_needs places rules) may →
    ReadsWithin (symbol_needs places) may
symbols-of may places rules within read needed =
    within read (search-same places places (λ rule. false) rules refl (λ rule none. absurd (cc none)) read needed)

pub pass-more-requires : goal.pass-more-requires
pass-more-requires g c = record { may = symbols-of g.L.Reads.may c.args.left.now.places _ c.requires.may }

pub pass-more-requires-else-one-other : goal.pass-more-requires-else-one-other
pass-more-requires-else-one-other g c = record { may = symbols-of g.L.Reads.may c.args.right.now.places _ c.requires.also }

pub open-requires-clause-named : goal.open-requires-clause-named
open-requires-clause-named g c rule is =
    let close = sym (close_is g (goal.at.open-requires-clause-named g c).After-may_meet) ∙ c.if-not-may_meet.false in
    c.requires.may (ofRule rule) (named-left _ _ _ _ _ c.node-one.ensures.tells c.node-other.ensures.tells c.args.steps.now close
    (sym c.node-one.ensures.opens ∙ c.opens_first.ensures.yes c.if-opens_first.true) rule is)

pub open-requires-then-other-clause-named : goal.open-requires-then-other-clause-named
open-requires-then-other-clause-named g c rule is =
    let close = sym (close_is g (goal.at.open-requires-then-other-clause-named g c).After-may_meet) ∙ c.if-not-may_meet.false in
    c.requires.may (ofRule rule) (named-right _ _ _ _ _ c.node-one.ensures.tells c.node-other.ensures.tells c.args.steps.now close
    c.requires.same (sym c.node-other.ensures.opens ∙ c.if-other.true) rule is)

pub open-requires-clause-rule : goal.open-requires-clause-rule
open-requires-clause-rule g c = sym c.node-one.ensures.opens ∙ c.opens_first.ensures.yes c.if-opens_first.true

pub returns-then-window-one-clause-turned : goal.returns-then-window-one-clause-turned
returns-then-window-one-clause-turned g c =
    let tells = c.node-one.ensures.tells in
    let told = c.node-other.ensures.tells in
    let to : to_z w64 (of_z w64 c.args.window.now.to) ≡ c.args.window.now.to = omega (arith, ints) in
    elim c.then-window-one.branch [
      | then-window-one-via-then-window-one w ↦
          let over : c.args.window.now.to ≤ℤ c.args.left.now.top.begin =
          omega (arith, ints, w.if-window-one.true, c.node-one.ensures.begin) in
          over-left _ _ _ _ _ tells told _ over _ (omega arith)
      | then-window-one-via-else-window-one+then-window-other w ↦
          let over : c.args.window.now.to ≤ℤ c.args.right.now.top.begin =
          omega (arith, ints, w.if-window-other.true, c.node-other.ensures.begin) in
          over-right _ _ _ _ _ tells told _ over _ (omega arith)
    ]

pub returns-then-more : goal.returns-then-more
returns-then-more g c =
    let apart = sym (close_is g (goal.at.returns-then-more g c).After-may_meet) ∙ c.if-not-may_meet.true in
    let tells = c.node-one.ensures.tells in
    let told = c.node-other.ensures.tells in
    elim c.if-one-other.branch [
      | then-one-other w ↦
          let sooner : c.args.left.now.top.end ≤ℤ c.args.right.now.top.end =
          omega (arith, ints, w.if-one-other.true, c.node-one.ensures.end, c.node-other.ensures.end) in
          record {
            turned = rw (w.left-is, w.right-is, w.steps-is)
                (passed-left _ _ _ _ _ tells told _ apart sooner _ _ (w.pass-more.ensures.more (sym w.more-is ∙ c.if-more.true))
                w.pass-more.ensures.cost);
            places = rw w.left-is w.pass-more.ensures.places;
            others = rw w.right-is refl;
            rules = rw w.left-is w.pass-more.ensures.rules;
            grammar = rw w.right-is refl;
          }
      | else-one-other w ↦
          let sooner : c.args.right.now.top.end ≤ℤ c.args.left.now.top.end =
          omega (arith, ints, w.if-one-other.false, c.node-one.ensures.end, c.node-other.ensures.end) in
          record {
            turned = rw (w.left-is, w.right-is, w.steps-is)
                (passed-right _ _ _ _ _ tells told _ apart sooner _ _
                (w.pass-more-else-one-other.ensures.more (sym w.more-is ∙ c.if-more.true))
                w.pass-more-else-one-other.ensures.cost);
            places = rw w.left-is refl;
            others = rw w.right-is w.pass-more-else-one-other.ensures.places;
            rules = rw w.left-is refl;
            grammar = rw w.right-is w.pass-more-else-one-other.ensures.rules;
          }
    ]

pub returns-else-more : goal.returns-else-more
returns-else-more g c =
    let apart = sym (close_is g (goal.at.returns-else-more g c).After-may_meet) ∙ c.if-not-may_meet.true in
    let tells = c.node-one.ensures.tells in
    let told = c.node-other.ensures.tells in
    elim c.if-one-other.branch [
      | then-one-other w ↦
          let sooner : c.args.left.now.top.end ≤ℤ c.args.right.now.top.end =
          omega (arith, ints, w.if-one-other.true, c.node-one.ensures.end, c.node-other.ensures.end) in
          record {
            turned = rw (w.left-is, w.right-is, w.steps-is)
                (ended-left _ _ _ _ _ tells told _ apart sooner _ _ (w.pass-more.ensures.end (sym w.more-is ∙ c.if-more.false))
                w.pass-more.ensures.cost);
            places = rw w.left-is w.pass-more.ensures.places;
            others = rw w.right-is refl;
            rules = rw w.left-is w.pass-more.ensures.rules;
            grammar = rw w.right-is refl;
          }
      | else-one-other w ↦
          let sooner : c.args.right.now.top.end ≤ℤ c.args.left.now.top.end =
          omega (arith, ints, w.if-one-other.false, c.node-one.ensures.end, c.node-other.ensures.end) in
          record {
            turned = rw (w.left-is, w.right-is, w.steps-is)
                (ended-right _ _ _ _ _ tells told _ apart sooner _ _
                (w.pass-more-else-one-other.ensures.end (sym w.more-is ∙ c.if-more.false))
                w.pass-more-else-one-other.ensures.cost);
            places = rw w.left-is refl;
            others = rw w.right-is w.pass-more-else-one-other.ensures.places;
            rules = rw w.left-is refl;
            grammar = rw w.right-is w.pass-more-else-one-other.ensures.rules;
          }
    ]

pub returns-then-opens_first-clause-turned : goal.returns-then-opens_first-clause-turned
returns-then-opens_first-clause-turned g c =
    let close = sym (close_is g (goal.at.returns-then-opens_first-clause-turned g c).After-may_meet) ∙ c.if-not-may_meet.false in
    opened-left _ _ _ _ _ c.node-one.ensures.tells c.node-other.ensures.tells _ close _ _ c.open.ensures.opened
    c.open.ensures.cost

pub returns-then-other-clause-turned : goal.returns-then-other-clause-turned
returns-then-other-clause-turned g c =
    let close = sym (close_is g (goal.at.returns-then-other-clause-turned g c).After-may_meet) ∙ c.if-not-may_meet.false in
    opened-right _ _ _ _ _ c.node-one.ensures.tells c.node-other.ensures.tells _ close _ _ c.open-then-other.ensures.opened
    c.open-then-other.ensures.cost

pub returns-clause-turned : goal.returns-clause-turned
returns-clause-turned g c =
    let close = sym (close_is g (goal.at.returns-clause-turned g c).After-may_meet) ∙ c.if-not-may_meet.false in
    let right : c.args.right.now.opens ≡ false = sym c.node-other.ensures.opens ∙ c.if-other.false in
    let left : c.args.left.now.opens ≡ false = sym c.node-one.ensures.opens
    ∙ neither _ _ (c.opens_first.ensures.no c.if-opens_first.false) c.if-other.false in
    let end : to_z w64 (of_z w64 c.node-one.result.end) ≡ c.args.left.now.top.end =
    omega (arith, ints, c.node-one.ensures.end) in (
      (
        stop_at c.args.left.now.top.end c.args.left.now.cell,
        stop_at c.args.right.now.top.end c.args.right.now.cell,
      ),
      rw (end, c.node-one.ensures.cell, c.node-other.ensures.cell) refl,
      found-both _ _ _ _ _ c.node-one.ensures.tells c.node-other.ensures.tells _ close left right _ (omega arith),
    )
