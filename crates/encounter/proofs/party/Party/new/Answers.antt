use Rattle.std.proofs.Common.{◌≡◌, subst, ap, ◌∙◌}
use Rattle.rule_store.specs.Flaws.{AreRules}
use Rattle.rule_store.specs.Log.{block_stops, log_of}
use Rattle.log_cursor.proofs.WayLemmas.{IsWayOf-placed, length-log_of}
use Rattle.encounter.specs.Span.{log_tree}
use Rattle.encounter.proofs.party.Party.new.Goals as goal

pub invariant_of-result : goal.invariant_of-result
invariant_of-result c =
    let now = c.begin.new.self in
    let rules = c.args.view.rules.now in
    let log = log_of c.args.view in
    let same : now.rules ≡ rules = c.begin.ensures.rules ∙ c.in_ok-pending.ensures.rules ∙ c.rules.ensures in
    let sound : AreRules rules = subst AreRules same c.begin.ensures.sound in
    let way = IsWayOf-placed rules c.args.start log sound (length-log_of c.args.view sound) c.requires in
    record {
      sound = c.begin.ensures.sound;
      way = rw (same, c.begin.ensures.symbols) way;
      top_is = tt;
    }

pub returns-clause-rest : goal.returns-clause-rest
unfolding block_stops
returns-clause-rest c =
    let now = c.begin.new.self in
    let same : now.rules ≡ c.args.view.rules.now = c.begin.ensures.rules ∙ c.in_ok-pending.ensures.rules ∙ c.rules.ensures in
    ap (λ r. log_tree r c.args.start now.symbols) same
    ∙ ap (log_tree c.args.view.rules.now c.args.start) c.begin.ensures.symbols
