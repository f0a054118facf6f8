use Rattle.std.proofs.Common.{arith}
use Rattle.std.proofs.lemmas.Grind.{common_steps}
use Rattle.std.proofs.Common.{◌<◌, ◌∙◌, ap, refl, rules, List, length, take, length-take}
use Rattle.history.specs.Loads.{Load, with_piece}
use Rattle.gract_top.proofs.LoadingLemmas.{IsLengthRefused-past, IsLoaded-end}
use Rattle.gract_top.proofs.loading.load.Goals as goal

pub returns-then-came-eq0-clause-came : goal.returns-then-came-eq0-clause-came
returns-then-came-eq0-clause-came g c =
    let known = c.pieces.invariant in
    let piece = take c.in_ok-came.came c.pull.new.buf in
    let room : 0 < length c.pull.new.buf = search rules in
    let added = c.in_ok-came.ensures.loads ∙ ap (λ (loads : List Load). with_piece loads piece) known.loads in
    record {
      bytes = known.bytes;
      loaded = IsLoaded-end c.args.kind _ _ _ _ c.args.name.now known.bytes piece _ _ (search rules) (search rules)
          (rw c.if-came-eq0.true refl) known.opened c.in_ok-came.ensures.read.0
          (c.in_ok-came.ensures.read.1 c.if-came-eq0.true room) added;
      received = known.received;
    }

pub returns-then-count-limit-clause-fault : goal.returns-then-count-limit-clause-fault
returns-then-count-limit-clause-fault g c =
    let piece = take c.in_ok-came.came c.pull.new.buf in
    let added = c.in_ok-came.ensures.loads ∙ ap (λ (loads : List Load). with_piece loads piece) c.pieces.invariant.loads in
    rw c.greatest-limit.ensures (
      refl,
      search rules,
      IsLengthRefused-past c.args.kind _ _ _ _ c.pieces.invariant.bytes piece _ _ _
          c.pieces.invariant.opened c.in_ok-came.ensures.read.0 added (search rules) (search (rules, length-take c.in_ok-came.came c.pull.new.buf))
          (search rules),
    )

pub pieces-preserved : goal.pieces-preserved
pieces-preserved g c = grind (arith, common_steps)

pub take-requires : goal.take-requires
take-requires g c = grind (arith, common_steps)
