use Rattle.std.proofs.Common.{◌≡◌, ◌<◌, arith, get_or, length, rules, subst}
use Rattle.std.proofs.lemmas.List.{get_or_default}
use Rattle.snapshots.specs.Found.{ArePut}
use Rattle.snapshots.proofs.ByObjectLemmas.{put-more, put-none}
use Rattle.snapshots.proofs.finding.reordered.Goals as goal

pub loop-k-init : goal.loop-k-init
loop-k-init c =
    put-none c.args.places.now c.args.blocks.now c.in_ok-table.table.items
    (omega (arith, c.in_ok-table.ensures.len, c.requires.long))

pub index_mut-requires : goal.index_mut-requires
index_mut-requires c =
    let within : get_or c.args.places.now c.loop-k.k 0 < length c.loop-k.table.items =
    omega (arith, c.loop-k.invariant.long, c.requires.places.within c.loop-k.k c.loop-k-test.true) in
    search (rules, within)

pub loop-k-preserved : goal.loop-k-preserved
loop-k-preserved c =
    put-more c.args.places.now c.args.blocks.now c.loop-k.table.items c.loop-k.k _ c.loop-k.invariant c.requires.places
    c.loop-k-test.true
    (λ d. get_or_default c.args.blocks.now c.loop-k.k _ d (omega (arith, c.requires.long, c.loop-k-test.true)))

pub returns : goal.returns
returns c =
    let last : c.loop-k.k ≡ length c.args.places.now = omega (arith, c.loop-k-test.false, c.loop-k.auto.k-end) in
    subst (λ n. ArePut c.args.places.now c.args.blocks.now n c.loop-k.table.items) last c.loop-k.invariant
