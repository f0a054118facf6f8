use Rattle.std.proofs.Common.{◌≡◌, ◌≤◌, None, subst, sym, ap, ◌∙◌, arith}
use Rattle.std.proofs.lemmas.Int.{ints}
use Rattle.rule_store.specs.Flaws.{AreRules}
use Rattle.rule_store.specs.Log.{log_of}
use Rattle.rule_store.specs.Needs.{places_of}
use Rattle.rule_store.specs.Nodes.{block_budget}
use Rattle.log_cursor.specs.Walk.{WalkView, at_rest, reads_to, walk_from, walk_of}
use Rattle.log_cursor.proofs.ExtentLemmas.{reads_to-walk_from}
use Rattle.log_cursor.proofs.StopLemmas.{word}
use Rattle.log_cursor.proofs.WalkLemmas.{near-anchor, walk_from-empty, walk_of-walk_from, walk_of-none}
use Rattle.log_cursor.proofs.WayLemmas.{IsWayOf-none, IsWayOf-placed, length-log_of}
use Rattle.log_cursor.proofs.walk.BlockWalk.begin.Goals as goal
use Rattle.log_cursor.proofs.walk.BlockWalk.begin.Goals.{After-begin}

-- nothing is left where the window has no instant
pub invariant_of-self : goal.invariant_of-self
invariant_of-self c =
    let walk = c.self.inside in
    record {
      way = rw c.end.ensures.symbols (IsWayOf-none c.end.new.self.rules walk.at c.self.invariant.way.start_is);
      near = tt;
      window = c.self.invariant.window;
    }

pub returns-then-to-from : goal.returns-then-to-from
returns-then-to-from c =
    let walk = c.self.inside in
    let rules = c.args.view.rules.now in
    let log = log_of c.args.view in
    let same = c.end.ensures.rules ∙ c.begin.ensures.rules ∙ ap (λ (w : WalkView). w.rules) c.self.view_is ∙ sym c.requires.rules in
    let places = places_of c.args.view in
    let begun : walk_of c.end.new.self None walk.at walk.from walk.to
    ≡ walk_from rules places log c.args.start c.args.from c.args.to =
    walk_of-none c.end.new.self walk.at walk.from walk.to c.end.ensures.symbols c.end.ensures.unread
    ∙ ap (λ r. at_rest r c.end.new.self.places) same ∙ ap (at_rest rules) (c.end.ensures.places ∙ c.begin.ensures.places)
    ∙ walk_from-empty rules places log c.args.start c.args.from c.args.to (omega (arith, ints, c.if-to-from.true)) in
    record {
      walk = begun;
      budget_to = λ instant window. subst (λ (w : WalkView). reads_to w instant
          ≤ block_budget rules c.args.start.instant log c.args.from instant) (sym begun)
          (reads_to-walk_from rules places log c.args.start c.args.from c.args.to instant window);
    }

-- the rules are those of the log
rules_are : (c : After-begin) → c.begin.new.self.rules ≡ c.args.view.rules.now
rules_are c = c.begin.ensures.rules ∙ ap (λ (w : WalkView). w.rules) c.self.view_is ∙ sym c.requires.rules

pub invariant_of-self-2 : goal.invariant_of-self-2
invariant_of-self-2 c =
    let rules = c.args.view.rules.now in
    let log = log_of c.args.view in
    let same = rules_are (goal.at.invariant_of-self-2 c).After-begin in
    let sound : AreRules rules = subst AreRules same c.begin.ensures.sound in
    record {
      way = rw (same, c.begin.ensures.symbols)
          (IsWayOf-placed rules c.args.start log sound (length-log_of c.args.view sound) c.requires.placed);
      near = near-anchor c.stop_within-self-inside.result c.args.start.cell c.requires.placed.cell
          c.stop_within-self-inside.ensures.cell;
      window = omega (arith, ints, c.if-to-from.false);
    }

pub returns : goal.returns
returns c =
    let same = rules_are (goal.at.returns c).After-begin in
    let log = log_of c.args.view in
    let low : word c.args.from ≡ c.args.from = omega (arith, ints) in
    let high : word c.args.to ≡ c.args.to = omega (arith, ints) in
    let begun : walk_of c.begin.new.self c.stop_within-self-inside.result c.args.start (word c.args.from) (word c.args.to)
    ≡ walk_from c.args.view.rules.now (places_of c.args.view) log c.args.start c.args.from c.args.to =
    rw (low, high) (walk_of-walk_from c.begin.new.self c.stop_within-self-inside.result c.args.start c.args.from
    c.args.to log c.begin.ensures.symbols c.begin.ensures.unread (rw (low, high) at c.stop_within-self-inside.ensures.value)
    (omega (arith, ints, c.if-to-from.false)))
    ∙ ap (λ r. walk_from r c.begin.new.self.places log c.args.start c.args.from c.args.to) same
    ∙ ap (λ places. walk_from c.args.view.rules.now places log c.args.start c.args.from c.args.to) c.begin.ensures.places in
    record {
      walk = begun;
      budget_to = λ instant window. subst (λ (w : WalkView). reads_to w instant
          ≤ block_budget c.args.view.rules.now c.args.start.instant log c.args.from instant) (sym begun)
          (reads_to-walk_from c.args.view.rules.now (places_of c.args.view) log c.args.start c.args.from c.args.to instant window);
    }
