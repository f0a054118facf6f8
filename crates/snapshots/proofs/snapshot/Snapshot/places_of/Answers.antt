use Rattle.std.proofs.Common.{◌≡◌, Some, ap, ◌∙◌, arith, length, subst, sym}
use Rattle.std.proofs.lemmas.Grind.{elements}
use Rattle.bit_rank.specs.Bits.{rank_of}
use Rattle.object_perm.specs.Permutation.{inverse_of}
use Rattle.snapshots.specs.View.{place_in, rank_in, IsPlaced}
use Rattle.snapshots.proofs.BlockLemmas.{rank_in-within}
use Rattle.snapshots.proofs.BlocksLemmas.{IsPlaced-present}
use Rattle.snapshots.proofs.snapshot.Snapshot.places_of.Goals as goal

pub blocks-blocks-requires : goal.blocks-blocks-requires
blocks-blocks-requires g c =
    let here = c.is_present.ensures.value ∙ ap Some c.if-not-is_present.false in
    omega (arith, rank_in-within c.args.self.now c.args.index c.is_present.ensures.snapshot here)

pub inverse-place-requires : goal.inverse-place-requires
inverse-place-requires g c =
    let is = c.blocks-blocks.ensures.blocks in
    let here = c.is_present.ensures.value ∙ ap Some c.if-not-is_present.false in
    omega (
      arith,
      rank_in-within c.args.self.now c.args.index c.is_present.ensures.snapshot here,
      c.rank1-rank.ensures.value,
      ap (λ bits. rank_of bits c.args.index) is.present,
      ap length is.perm,
    )

pub returns-clause-placed : goal.returns-clause-placed
returns-clause-placed g c =
    let view = c.args.self.now in
    let is = c.blocks-blocks.ensures.blocks in
    let here = c.is_present.ensures.value ∙ ap Some c.if-not-is_present.false in
    let rank : c.rank1-rank.result ≡ rank_in view c.args.index =
    c.rank1-rank.ensures.value ∙ ap (λ bits. rank_of bits c.args.index) is.present in
    let place : c.inverse-place.result ≡ place_in view c.args.index =
    c.inverse-place.ensures.exact ∙ ap (λ perm. inverse_of perm c.rank1-rank.result) is.perm
    ∙ ap (inverse_of view.parts.perm) rank in
    subst (λ r. IsPlaced view c.args.index c.inverse-place.result r) (sym rank)
    (subst (λ p. IsPlaced view c.args.index p (rank_in view c.args.index)) (sym place)
    (IsPlaced-present view c.args.index c.is_present.ensures.snapshot here))

pub returns-then-not-is_present-clause-none : goal.returns-then-not-is_present-clause-none
returns-then-not-is_present-clause-none g c = grind (arith, elements)
