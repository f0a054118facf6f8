use Rattle.std.proofs.Common.{◌≡◌, ◌<◌, ◌≤◌, ◌+◌, ◌∷◌, ◌++◌, [], pos, length, max, arith, ap, get_or, refl, subst, sym, take, map, ◌∙◌}
use Rattle.std.specs.Prelude.{fold, sum}
use Rattle.std.proofs.lemmas.List.{map-append, take_all, take_more}
use Rattle.std.proofs.lemmas.Result.{err_from_is_err_and}
use Rattle.list_laws.proofs.GreatestLemmas.{fold_max-more}
use Rattle.rule_store.specs.View.{RulesView}
use Rattle.track_types.specs.declared.limit.TheConstants.{MAX_SYMBOLS}
use Rattle.rule_store.proofs.NeedsLemmas.{within-places}
use Rattle.snapshots.specs.Flaws.{IsSnapFaultFor}
use Rattle.snapshots.specs.Needs.{log_places}
use Rattle.snapshots.specs.Speed.{block_speed, blocks_speed}
use Rattle.snapshots.specs.Tracks.{track_box}
use Rattle.snapshots.specs.declared.anchored.Anchored.{Anchored}
use Rattle.snapshots.proofs.ByObjectLemmas.{length-all_blocks}
use Rattle.snapshots.proofs.JudgingLemmas.{blocks_flaw-at, blocks_flaw-none, cell-within, none-more, read-at, same_flaw, taken-read, IsTaken}
use Rattle.snapshots.proofs.PlacesLemmas.{few_places}
use Rattle.snapshots.proofs.logs.judge_logs.Given.{Over}
use Rattle.snapshots.proofs.logs.judge_logs.Goals as goal
use Rattle.snapshots.proofs.logs.judge_logs.Goals.{After-judge_log-arg-1}

-- what stands where there is no block
abbrev none : Anchored
none = record { index = 0; offset = 0; cell = record { x = pos 0; y = pos 0 }; from = 0; len = 0 }

-- the block that is judged
abbrev block : (g : Over) → After-judge_log-arg-1 g → Anchored
block g c = get_or c.args.blocks.now c.loop-rank.rank none

takes : (g : Over) (c : After-judge_log-arg-1 g) → IsTaken c.args.snapshot.now c.loop-rank.rank (block g c)
takes g c =
    taken-read c.args.snapshot.now c.args.blocks.now c.requires.blocks c.loop-rank.rank none c.frame-frame.ensures.snapshot
    c.loop-rank-test.true

-- it is one of the period's
within : (g : Over) (c : After-judge_log-arg-1 g) → c.loop-rank.rank < length c.args.snapshot.now.parts.perm
within g c =
    omega (
      arith,
      c.loop-rank-test.true,
      ap length c.requires.blocks,
      length-all_blocks c.args.snapshot.now c.frame-frame.ensures.snapshot,
    )

-- the logs begin where the period's do
begun : (g : Over) (c : After-judge_log-arg-1 g) → c.loop-rank.invariant.from ≡ c.args.snapshot.now.start
begun g c = c.loop-rank.invariant.begins (omega (arith, within g c))

pub loop-rank-init : goal.loop-rank-init
loop-rank-init g c = record {
  none = λ j d below. absurd (omega arith);
  fastest = refl;
  areas = c.in_ok-areas.ensures.items;
  filled = c.in_ok-areas.ensures.len;
  room = omega (arith, c.in_ok-areas.ensures.capacity);
  from = c.logs-from.result.0;
  begins = c.logs-from.ensures.from;
  rules_are = c.new-ahead.ensures.rules;
  at = omega (arith, c.new-ahead.ensures.place);
  end_is = omega (arith, c.new-ahead.ensures.end, c.logs-from.ensures.len);
  later = omega (arith, c.new-ahead.ensures.read);
  within = omega (arith, c.new-ahead.ensures.read, c.new-ahead.ensures.end);
  reads = omega (arith, c.new-ahead.ensures.read);
}

pub overflow_cast-rank : goal.overflow_cast-rank
overflow_cast-rank g c =
    omega (
      arith,
      c.loop-rank-test.true,
      ap length c.requires.blocks,
      length-all_blocks c.args.snapshot.now c.frame-frame.ensures.snapshot,
      few_places c.args.snapshot.now c.frame-frame.ensures.snapshot,
    )

pub judge_log-requires-clause-offset : goal.judge_log-requires-clause-offset
judge_log-requires-clause-offset g c =
    rw (c.frame-frame.ensures.value, c.requires.number)
    (takes g (goal.at.judge_log-requires-clause-offset g c).After-judge_log-arg-1).its.offset

pub judge_log-requires-clause-cell : goal.judge_log-requires-clause-cell
judge_log-requires-clause-cell g c =
    let at = (goal.at.judge_log-requires-clause-cell g c).After-judge_log-arg-1 in
    cell-within c.args.snapshot.now.frame (block g at).cell c.frame-frame.ensures.snapshot.shaped.header (takes g at).its.cell

pub judge_log-requires-clause-log : goal.judge_log-requires-clause-log
judge_log-requires-clause-log g c =
    omega (
      arith,
      (takes g (goal.at.judge_log-requires-clause-log g c).After-judge_log-arg-1).its.to,
      c.requires.symbols,
      ap (λ (r : RulesView). length r.symbols) c.loop-rank.invariant.rules_are,
    )

pub judge_log-requires-clause-at : goal.judge_log-requires-clause-at
judge_log-requires-clause-at g c =
    let at = (goal.at.judge_log-requires-clause-at g c).After-judge_log-arg-1 in
    omega (arith, c.loop-rank.invariant.at, begun g at, (takes g at).begins)

pub judge_log-requires-clause-end : goal.judge_log-requires-clause-end
judge_log-requires-clause-end g c =
    let at = (goal.at.judge_log-requires-clause-end g c).After-judge_log-arg-1 in
    omega (arith, (takes g at).its.to, c.loop-rank.invariant.end_is, begun g at)

pub judge_log-requires-clause-long : goal.judge_log-requires-clause-long
judge_log-requires-clause-long g c =
    let total : c.args.snapshot.now.start + sum c.args.snapshot.now.parts.lengths ≤ MAX_SYMBOLS =
    c.frame-frame.ensures.snapshot.shaped.total in
    omega (arith, (takes g (goal.at.judge_log-requires-clause-long g c).After-judge_log-arg-1).its.to, total)

pub judge_log-requires-clause-may : goal.judge_log-requires-clause-may
judge_log-requires-clause-may g c =
    let at = (goal.at.judge_log-requires-clause-may g c).After-judge_log-arg-1 in
    let ahead = c.loop-rank.ahead in
    within-places g.L.Reads.may (ahead.read, ahead.end) (log_places c.args.snapshot.now)
    (omega (arith, begun g at, c.loop-rank.invariant.later)) (omega (arith, begun g at, c.loop-rank.invariant.end_is)) c.requires.may

pub returns-in_err-log-clause-flaw : goal.returns-in_err-log-clause-flaw
returns-in_err-log-clause-flaw g c =
    let at = (goal.at.returns-in_err-log-clause-flaw g c).After-judge_log-arg-1 in
    let view = c.args.snapshot.now in
    let found = c.in_err-log.field-0.0 in
    let same = same_flaw c.args.rules.now c.loop-rank.ahead.rules view c.frame-frame.result.now c.args.number c.loop-rank.rank
    (block g at) c.loop-rank.invariant.rules_are c.frame-frame.ensures.value c.requires.number (takes g at).rank_is in
    let known = blocks_flaw-at c.args.rules.now view c.loop-rank.rank (block g at) found
    (omega (arith, within g at, length-all_blocks view c.frame-frame.ensures.snapshot)) c.loop-rank.invariant.none
    (read-at view c.args.blocks.now c.requires.blocks c.loop-rank.rank none (block g at) c.loop-rank-test.true)
    (subst (λ first. IsSnapFaultFor first found) same c.in_err-log.ensures.flaw) in
    let given = err_from_is_err_and c.from_residual-in_err-log.result c.from_residual-in_err-log.ensures.1 in
    rw (given.1, given.2) known

pub returns-in_err-log-clause-cost : goal.returns-in_err-log-clause-cost
returns-in_err-log-clause-cost g c =
    let before = c.loop-rank.invariant in
    let read = c.judge_log.ensures.read in
    omega (arith, read.reads, read.within, read.end_is, before.reads, before.end_is)

pub push_reserved-requires : goal.push_reserved-requires
push_reserved-requires g c =
    omega (arith, c.loop-rank.invariant.filled, c.loop-rank.invariant.room, c.loop-rank-test.true)

pub loop-rank-preserved : goal.loop-rank-preserved
loop-rank-preserved g c =
    let at = (goal.at.loop-rank-preserved g c).After-judge_log-arg-1 in
    let view = c.args.snapshot.now in
    let rules = c.args.rules.now in
    let blocks = c.args.blocks.now in
    let rank = c.loop-rank.rank in
    let here : Anchored = block g at in
    let before = c.loop-rank.invariant in
    let log = c.in_ok-log.ensures in
    let read = c.judge_log.ensures.read in
    let takes = takes g at in
    let same = same_flaw rules c.loop-rank.ahead.rules view c.frame-frame.result.now c.args.number rank here
    before.rules_are c.frame-frame.ensures.value c.requires.number takes.rank_is in
    let more = take_more blocks rank none c.loop-rank-test.true in
    let area = c.in_ok-log.log.bounds.area in
    record {
      none = none-more rules view rank here before.none
          (λ d. read-at view blocks c.requires.blocks rank none d c.loop-rank-test.true) (sym same ∙ log.exact);
      fastest = log.speed ∙ ap (λ r. max c.loop-rank.speed (block_speed r here)) before.rules_are
          ∙ ap (λ n. max n (block_speed rules here)) before.fastest
          ∙ sym (fold_max-more (block_speed rules) (take rank blocks) here 0)
          ∙ ap (λ bs. fold max 0 (map (block_speed rules) bs)) (sym more);
      areas = c.push_reserved.ensures.items ∙ ap (λ xs. xs ++ area ∷ []) before.areas
          ∙ ap (λ a. map (track_box rules) (take rank blocks) ++ a ∷ [])
          (log.area ∙ ap (λ r. track_box r here) before.rules_are)
          ∙ sym (map-append (track_box rules) (take rank blocks) (here ∷ []))
          ∙ ap (map (track_box rules)) (sym more);
      filled = omega (arith, c.push_reserved.ensures.len, before.filled);
      room = omega (arith, c.push_reserved.ensures.capacity, before.room);
      from = before.from;
      begins = before.begins;
      rules_are = read.rules_are ∙ before.rules_are;
      at = omega (arith, log.place, takes.begins, begun g at, takes.log);
      end_is = omega (arith, read.end_is, before.end_is);
      later = omega (arith, read.later, before.later);
      within = omega (arith, read.within);
      reads = omega (arith, read.reads, before.reads);
    }

pub returns-clause-exact : goal.returns-clause-exact
returns-clause-exact g c =
    blocks_flaw-none c.args.rules.now c.args.snapshot.now
    (λ j d below. c.loop-rank.invariant.none j d
    (omega (arith, below, ap length c.requires.blocks, c.loop-rank-test.false)))

pub returns-clause-speed : goal.returns-clause-speed
unfolding blocks_speed
returns-clause-speed g c =
    c.loop-rank.invariant.fastest
    ∙ ap (λ bs. fold max 0 (map (block_speed c.args.rules.now) bs))
    (take_all c.loop-rank.rank c.args.blocks.now (omega (arith, c.loop-rank-test.false)) ∙ c.requires.blocks)

pub returns-clause-areas : goal.returns-clause-areas
returns-clause-areas g c =
    c.loop-rank.invariant.areas
    ∙ ap (map (track_box c.args.rules.now))
    (take_all c.loop-rank.rank c.args.blocks.now (omega (arith, c.loop-rank-test.false)) ∙ c.requires.blocks)
