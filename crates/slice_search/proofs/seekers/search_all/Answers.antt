use Rattle.std.proofs.Common.{◌≡◌, ℕ, Bool, All, get_or, subst, arith}
use Rattle.std.proofs.lemmas.Int.{ints}
use Rattle.step_count.specs.Reads.{ofRule}
use Rattle.log_cursor.proofs.StageLemmas.{next_rule-within}
use Rattle.log_cursor.proofs.StopLemmas.{word}
use Rattle.slice_search.specs.Seekers.{IsSeeker, OpensWithin}
use Rattle.slice_search.proofs.LiveLemmas.{live-all, live-none}
use Rattle.slice_search.proofs.SeekerLemmas.{turned-again, turned-first}
use Rattle.slice_search.proofs.seekers.search_all.Goals as goal

pub loop-count-init : goal.loop-count-init
loop-count-init g c =
    let kept : c.args.instant ≡ word c.args.instant = omega (arith, ints) in
    let sound = subst (λ instant. All (IsSeeker c.args.rules.now instant) c.args.seekers.now) kept c.requires.sound in
    record {
      few = c.requires.few;
      live = live-all c.args.seekers.now c.requires.few;
      turned = turned-first c.args.rules.now (word c.args.instant) c.args.test.now.region c.args.seekers.now sound;
      cost = omega arith;
    }

pub returns-clause-over : goal.returns-clause-over
returns-clause-over g c =
    live-none c.loop-count.live c.loop-count.count c.loop-count.seekers c.loop-count.invariant.live
    (omega (arith, c.loop-count-test.false))

-- a search opens next one of the rules that it may open
pub open_all-requires-clause-may : goal.open_all-requires-clause-may
open_all-requires-clause-may g c =
    let may : ℕ → Bool = λ rule. g.L.Reads.may (ofRule rule) in
    let rules = c.args.rules.now in
    let instant = word c.args.instant in
    let region = c.args.test.now.region in
    let kept : c.args.instant ≡ instant = omega (arith, ints) in
    let first = subst (λ z. All (OpensWithin rules z region may) c.args.seekers.now) kept c.requires.may in
    let now = c.judge_all-count.ensures.turned.opens may (c.loop-count.invariant.turned.opens may first) in
    λ k d below rule is. (
    let descent = (get_or c.judge_all-count.new.seekers k d).descent in
    now k d below rule (next_rule-within rules instant region descent.at descent.stage rule is))

pub loop-count-preserved : goal.loop-count-preserved
loop-count-preserved g c =
    let rules = c.args.rules.now in
    let instant = word c.args.instant in
    let region = c.args.test.now.region in
    let its = c.loop-count.invariant in
    let judged = c.judge_all-count.new.seekers in
    let opened = c.open_all.new.seekers in
    let more = turned-again rules instant region judged opened c.turn_all.new.seekers (c.open_all.ensures.turned region)
    (c.turn_all.ensures.turned region) in
    let once = turned-again rules instant region c.loop-count.seekers judged c.turn_all.new.seekers
    c.judge_all-count.ensures.turned more in
    record {
      few = omega (arith, its.few, c.judge_all-count.ensures.few);
      live = c.turn_all.ensures.live;
      turned = turned-again rules instant region c.args.seekers.now c.loop-count.seekers c.turn_all.new.seekers its.turned once;
      cost = omega (
        arith,
        its.cost,
        c.judge_all-count.ensures.cost,
        c.open_all.ensures.cost region,
        c.turn_all.ensures.cost region,
      );
    }
