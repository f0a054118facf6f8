use Rattle.std.proofs.Common.{sym, ◌∙◌, arith}
use Rattle.snapshots.proofs.PlacesLemmas.{few_places, first_place_behind, first_place_zero, some_place}
use Rattle.snapshots.proofs.snapshot.Snapshot.first_place.Goals as goal

pub returns-then-leaf-eq0-clause-within : goal.returns-then-leaf-eq0-clause-within
returns-then-leaf-eq0-clause-within g c =
    (first_place_zero c.args.self.now c.tree.ensures.snapshot (omega (arith, c.requires.within, c.if-leaf-eq0.true))).within

pub returns-then-leaf-eq0-clause-leaf : goal.returns-then-leaf-eq0-clause-leaf
returns-then-leaf-eq0-clause-leaf g c =
    (first_place_zero c.args.self.now c.tree.ensures.snapshot (omega (arith, c.requires.within, c.if-leaf-eq0.true))).here
    ∙ sym c.if-leaf-eq0.true

pub blocks-requires : goal.blocks-requires
blocks-requires g c = some_place c.args.self.now c.tree.ensures.snapshot (omega (arith, c.requires.within))

pub overflow_add-result : goal.overflow_add-result
overflow_add-result g c =
    let is = first_place_behind c.args.self.now c.blocks-2.result.now.lasts c.args.leaf c.select1.result
    c.tree.ensures.snapshot c.blocks-2.ensures.blocks.lasts c.requires.within c.select1.ensures.place in
    omega (arith, is.within, few_places c.args.self.now c.tree.ensures.snapshot)

pub returns-clause-within : goal.returns-clause-within
returns-clause-within g c =
    (first_place_behind c.args.self.now c.blocks-2.result.now.lasts c.args.leaf c.select1.result
    c.tree.ensures.snapshot c.blocks-2.ensures.blocks.lasts c.requires.within c.select1.ensures.place).within

pub returns-clause-leaf : goal.returns-clause-leaf
returns-clause-leaf g c =
    (first_place_behind c.args.self.now c.blocks-2.result.now.lasts c.args.leaf c.select1.result
    c.tree.ensures.snapshot c.blocks-2.ensures.blocks.lasts c.requires.within c.select1.ensures.place).here

pub returns-clause-places : goal.returns-clause-places
returns-clause-places g c =
    (first_place_behind c.args.self.now c.blocks-2.result.now.lasts c.args.leaf c.select1.result
    c.tree.ensures.snapshot c.blocks-2.ensures.blocks.lasts c.requires.within c.select1.ensures.place).places
