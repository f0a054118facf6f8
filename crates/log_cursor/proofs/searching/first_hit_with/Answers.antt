use Rattle.std.proofs.Common.{◌≡◌, ◌≤ℤ◌, [], ◌∷◌, sym, subst, ◌∙◌, arith}
use Rattle.std.proofs.lemmas.Int.{ints}
use Rattle.rule_store.specs.Flaws.{AreRules}
use Rattle.rule_store.specs.Log.{in_window, log_of, stop_at}
use Rattle.log_cursor.specs.Touching.{first_among}
use Rattle.log_cursor.proofs.StopLemmas.{word}
use Rattle.log_cursor.proofs.SearchLemmas.{first_hit_of-anchor, first_hit_of-empty, first_hit_of-later}
use Rattle.log_cursor.proofs.SearchLemmas.{first_hit_of-over}
use Rattle.log_cursor.proofs.WayLemmas.{IsWayOf-placed, length-log_of}
use Rattle.log_cursor.proofs.searching.first_hit_with.Given.{Over}
use Rattle.log_cursor.proofs.searching.first_hit_with.Goals as goal
use Rattle.log_cursor.proofs.searching.first_hit_with.Goals.{After-anchor_hit-anchor, then-is_some-via-then-is_some}
use Rattle.log_cursor.proofs.searching.first_hit_with.Goals.{then-is_some-via-else-is_some+then-to-start}

pub returns-then-to-from-clause-value : goal.returns-then-to-from-clause-value
returns-then-to-from-clause-value g c =
    sym (first_hit_of-empty c.args.view.rules.now (log_of c.args.view) c.args.start c.args.from c.args.to
    c.args.test.now.region (omega (arith, ints, c.if-to-from.true)))

-- what the anchor's own call answers
anchor_is : (g : Over) (c : After-anchor_hit-anchor g) → c.anchor_hit-anchor.result
    ≡ first_among c.args.test.now.region
    (in_window c.args.from c.args.to (stop_at c.args.start.instant c.args.start.cell ∷ []))
anchor_is g c =
    let from : word c.args.from ≡ c.args.from = omega (arith, ints) in
    let to : word c.args.to ≡ c.args.to = omega (arith, ints) in
    rw (from, to) at c.anchor_hit-anchor.ensures

pub returns-then-is_some-clause-value : goal.returns-then-is_some-clause-value
returns-then-is_some-clause-value g c =
    let rules = c.args.view.rules.now in
    let log = log_of c.args.view in
    let anchor = c.anchor_hit-anchor.result in
    let region = c.args.test.now.region in
    let is = anchor_is g (goal.at.returns-then-is_some-clause-value g c).After-anchor_hit-anchor in
    elim c.then-is_some.branch [
      | then-is_some-via-then-is_some w ↦
          first_hit_of-anchor rules log c.args.start c.args.from c.args.to region anchor is
          (sym c.is_some.ensures ∙ w.if-is_some.true)
      | then-is_some-via-else-is_some+then-to-start w ↦
          let over : c.args.to ≤ℤ c.args.start.instant = omega (arith, ints, w.if-to-start.true) in
          first_hit_of-over rules log c.args.start c.args.from c.args.to region anchor is over
    ]

pub hit_after-requires : goal.hit_after-requires
hit_after-requires g c =
    let now = c.begin.new.self in
    let rules = c.args.view.rules.now in
    let log = log_of c.args.view in
    let same : now.rules ≡ rules = c.begin.ensures.rules ∙ sym c.requires.rules in
    let sound : AreRules rules = subst AreRules same c.begin.ensures.sound in
    let way = IsWayOf-placed rules c.args.start log sound (length-log_of c.args.view sound) c.requires.placed in
    let from : word c.args.from ≡ c.args.from = omega (arith, ints) in
    let to : word c.args.to ≡ c.args.to = omega (arith, ints) in
    rw (same, c.begin.ensures.symbols, c.begin.ensures.places, from, to)
    (record { way = way; window = omega (arith, ints, c.if-to-from.false); may = c.requires.may })

pub returns-clause-value : goal.returns-clause-value
returns-clause-value g c =
    let rules = c.args.view.rules.now in
    let log = log_of c.args.view in
    let region = c.args.test.now.region in
    let from : word c.args.from ≡ c.args.from = omega (arith, ints) in
    let to : word c.args.to ≡ c.args.to = omega (arith, ints) in
    let same : c.begin.new.self.rules ≡ rules =
    c.begin.ensures.rules ∙ sym c.requires.rules in
    let is = anchor_is g (goal.at.returns-clause-value g c).After-anchor_hit-anchor in
    (rw (same, c.begin.ensures.symbols, from, to) at c.hit_after.ensures.value)
    ∙ first_hit_of-later rules log c.args.start c.args.from c.args.to region c.anchor_hit-anchor.result is
    (sym c.is_some.ensures ∙ c.if-is_some.false)
