-- Valid parts are what their outline opens to.
use Rattle.std.proofs.Common.{◌≡◌, ℕ, ◌<◌, false, List, length, map}
use Rattle.std.proofs.Common.{refl, ap, ◌∙◌, arith}
use Rattle.std.specs.List.{flat_map}
use Rattle.std.proofs.lemmas.Simd.{map-map}
use Rattle.list_laws.proofs.MapLemmas.{map-range_agree}
use Rattle.track_types.specs.Frame.{periods_of}
use Rattle.track_types.specs.Spelling.{holds_parts, spelling_of}
use Rattle.track_types.specs.declared.parts.Parts.{Parts}
use Rattle.movement_log.specs.declared.head.Head.{Head}
use Rattle.index_format.specs.IsOutline.{AreInOrder, blocks_with_logs}
use Rattle.index_format.specs.declared.outline.Outline.{Outline}
use Rattle.snapshots.specs.Parts.{no_period, numbers_in, period_at, snapshot_in}
use Rattle.snapshots.specs.SoundParts.{IsValid}
use Rattle.snapshots.specs.View.{all_blocks}
use Rattle.snapshots.proofs.ReachLemmas.{IsSnapshot-valid}
use Rattle.chart_parts.specs.PeriodWith.{blocks_of_period, period_of_blocks}
use Rattle.outline_parts.specs.OutlineOf.{logged_block, outline_of}
use Rattle.outline_parts.specs.PartsOfOutline.{head_of, headed, logged_in, parts_of_outline, symbols_in}
use Rattle.outline_parts.proofs.OutlineLemmas.{Logged, heads-mine, lengths-mine}
use Rattle.outline_parts.proofs.OutlineOfLemmas.{IsOutline-outline_of, logged-told}
use Rattle.outline_parts.proofs.PeriodAgainLemmas.{period_with-again, view_heads, view_lengths}
use Rattle.outline_parts.proofs.RankLemmas.{map-places}
use Rattle.outline_parts.proofs.ToldLemmas.{symbols-told, told-in_period}

module _ (parts : Parts) (valid : IsValid parts) (no_parts : holds_parts (spelling_of parts.frame.version) ≡ false)
    (in_order : AreInOrder (length parts.alphabet) parts.rules) where
  abbrev outline : Outline
  outline = outline_of parts

  module _ (number : ℕ) (below : number < periods_of parts.frame) where
    abbrev heads : List Head
    heads = view_heads (snapshot_in parts number) (IsSnapshot-valid parts valid number below)

    abbrev lengths : List ℕ
    lengths = view_lengths (snapshot_in parts number) (IsSnapshot-valid parts valid number below)

    mine-are : logged_in number (blocks_with_logs outline.blocks outline.symbols)
        ≡ map (logged_block parts number) (all_blocks (snapshot_in parts number))
    mine-are = ap (logged_in number) (logged-told parts valid) ∙ told-in_period parts valid number below

    heads-are : map (λ block. block.0) (blocks_of_period number (map (headed outline.frame) outline.blocks)) ≡ heads
    unfolding outline_of
    heads-are =
        heads-mine outline (IsOutline-outline_of parts valid no_parts in_order) number
        ∙ ap (map (λ (it : Logged). head_of parts.frame it.0)) mine-are
        ∙ map-map (λ (it : Logged). head_of parts.frame it.0) (logged_block parts number) (all_blocks (snapshot_in parts number))

    lengths-are : map (λ block. block.1) (blocks_of_period number (map (headed outline.frame) outline.blocks)) ≡ lengths
    unfolding outline_of
    lengths-are =
        lengths-mine outline (IsOutline-outline_of parts valid no_parts in_order) number
        ∙ ap (map (λ (it : Logged). it.0.length)) mine-are
        ∙ map-map (λ (it : Logged). it.0.length) (logged_block parts number) (all_blocks (snapshot_in parts number))

    -- the parts of a period are made again
    period-again : period_of_blocks outline.frame (length outline.objects) (map (headed outline.frame) outline.blocks) number
        ≡ period_at parts.periods number
    unfolding outline_of period_of_blocks
    period-again =
        rw (heads-are, lengths-are) (period_with-again (snapshot_in parts number) (IsSnapshot-valid parts valid number below))

  -- the parts of all periods
  periods-again : map (period_of_blocks outline.frame (length outline.objects) (map (headed outline.frame) outline.blocks)) (numbers_in parts.frame)
      ≡ parts.periods
  periods-again =
      map-range_agree _ (period_at parts.periods) 0 (periods_of parts.frame) (λ number low high. period-again number (omega arith))
      ∙ map-places parts.periods no_period (periods_of parts.frame) valid.shaped.periods

  -- the parts that the outline opens to are the parts
  pub parts_of_outline-outline_of : parts_of_outline (outline_of parts) ≡ parts
  unfolding parts_of_outline outline_of
  parts_of_outline-outline_of =
      let symbols = ap (λ its. flat_map (symbols_in its) (numbers_in parts.frame)) (logged-told parts valid)
      ∙ symbols-told parts valid in
      rw (periods-again, symbols) refl
