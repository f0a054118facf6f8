use Rattle.std.proofs.Common.{◌≡◌, ◌∙◌, ap, map, refl, subst, sym}
use Rattle.std.specs.List.{flat_map}
use Rattle.index_format.specs.IsOutline.{IsOutline}
use Rattle.outline_parts.specs.OutlineOf.{logged_blocks, outline_of}
use Rattle.outline_parts.specs.declared.opening.PlacedBlock.{PlacedBlock}
use Rattle.outline_parts.proofs.ByObjectLemmas.{blocks-by_object, ends-low, symbols-by_object}
use Rattle.outline_parts.proofs.OutlineOfLemmas.{IsOutline-outline_of}
use Rattle.outline_parts.proofs.outlining.outline_of.Goals as goal

pub symbols_of-requires : goal.symbols_of-requires
symbols_of-requires c =
    rw (c.as_slice.ensures.value, c.in_ok-placed.ensures, c.as_slice-2.ensures) (ends-low c.args.parts c.requires.valid)

pub returns-clause-ok : goal.returns-clause-ok
unfolding outline_of
returns-clause-ok c =
    let parts = c.args.parts in
    let blocks : c.new.result ≡ map (λ it. it.0) (logged_blocks parts) =
    c.new.ensures ∙ c.in_ok-blocks.ensures ∙ ap (map (λ (one : PlacedBlock). one.block)) (c.as_slice-3.ensures.value ∙ c.in_ok-placed.ensures)
    ∙ blocks-by_object parts c.requires.valid in
    let taken = rw (c.as_slice.ensures.value, c.in_ok-placed.ensures, c.as_slice-2.ensures) at c.in_ok-sorted.ensures in
    let symbols : c.new-2.result ≡ flat_map (λ it. it.1) (logged_blocks parts) =
    c.new-2.ensures ∙ taken ∙ symbols-by_object parts c.requires.valid in
    rw (blocks, symbols) refl

pub returns-clause-outline : goal.returns-clause-outline
returns-clause-outline c =
    subst IsOutline (sym (returns-clause-ok c)) (IsOutline-outline_of c.args.parts c.requires.valid c.requires.spelling c.requires.order)
