-- An outline is that of its parts.
use Rattle.std.proofs.Common.{◌≡◌, length, map, refl, ap, ◌∙◌}
use Rattle.std.specs.List.{flat_map}
use Rattle.track_types.specs.Frame.{periods_of}
use Rattle.index_format.specs.IsOutline.{IsOutline, blocks_with_logs}
use Rattle.index_format.specs.declared.outline.Outline.{Outline}
use Rattle.outline_parts.specs.OutlineOf.{block_in, logged_blocks, outline_of}
use Rattle.outline_parts.specs.PartsOfOutline.{parts_of_outline}
use Rattle.outline_parts.proofs.BlockLemmas.{block_in-outline}
use Rattle.outline_parts.proofs.LoggedLemmas.{blocks-logged, symbols-logged}
use Rattle.outline_parts.proofs.OutlineLemmas.{its, its-sorted, object_in, period_in}
use Rattle.outline_parts.proofs.PairOrderLemmas.{made-again}

module _ (outline : Outline) (is : IsOutline outline) where
  -- the blocks of its parts, with their logs, are its own
  pub logged_blocks-outline : logged_blocks (parts_of_outline outline) ≡ blocks_with_logs outline.blocks outline.symbols
  unfolding logged_blocks parts_of_outline
  logged_blocks-outline =
      made-again object_in period_in (length outline.objects) (periods_of outline.frame) (block_in (parts_of_outline outline))
      (its outline is) (its-sorted outline is) (λ k d within. (is.each k d within).object)
      (λ k d within. (is.each k d within).period)
      (λ number i below within. block_in-outline outline is number below i within)

  -- the outline of its parts is the outline
  pub outline_of-parts : outline_of (parts_of_outline outline) ≡ outline
  unfolding outline_of parts_of_outline
  outline_of-parts =
      let blocks = ap (map (λ it. it.0)) logged_blocks-outline ∙ blocks-logged outline.blocks outline.symbols in
      let symbols = ap (flat_map (λ it. it.1)) logged_blocks-outline
      ∙ symbols-logged outline.blocks outline.symbols is.symbols in
      rw (blocks, symbols) refl
