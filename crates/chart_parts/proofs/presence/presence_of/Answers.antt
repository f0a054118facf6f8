use Rattle.std.proofs.lemmas.Grind.{common_steps}
use Rattle.std.proofs.Common.{◌≡◌, Bool, true, ◌∙◌, ◌+◌, ◌-◌, ◌++◌, ◌∷◌, [], add-one, ap, arith, get_or, sym, take}
use Rattle.std.specs.Prelude.{slice_set}
use Rattle.std.proofs.Math.Seq.{take-suc}
use Rattle.std.proofs.lemmas.List.{take_all}
use Rattle.chart_parts.specs.PeriodWith.{no_head, presence_of}
use Rattle.chart_parts.proofs.PresenceLemmas.{presence_from-none, presence_of-snoc}
use Rattle.chart_parts.proofs.presence.presence_of.Goals as goal

pub loop-head-init : goal.loop-head-init
loop-head-init c =
    let n = c.args.objects in
    let all : n - 0 ≡ n = omega arith in
    c.in_ok-resize.ensures.items
    ∙ rw (c.new-bits.ensures.items, c.new-bits.ensures.len, all, take_all {A = Bool} n [] (omega arith))
    (sym (presence_from-none 0 n))

pub loop-head-preserved : goal.loop-head-preserved
loop-head-preserved c =
    let heads = c.args.heads.now in
    let i = c.loop-head.head-index in
    let head = get_or heads i no_head in
    let first : take (i + 1) heads ≡ take i heads ++ head ∷ [] =
    rw add-one (take-suc heads i no_head c.loop-head-test.true) in
    ap (λ bits. slice_set bits head.index true) c.loop-head.invariant
    ∙ sym (ap (presence_of c.args.objects) first
    ∙ presence_of-snoc (take i heads) head c.args.objects (c.requires i no_head c.loop-head-test.true))

pub returns : goal.returns
returns c = grind (arith, common_steps)
