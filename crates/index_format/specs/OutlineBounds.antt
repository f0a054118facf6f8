-- What bounds the logs of an outline's blocks.
use Rattle.std.specs.Prelude.{ℕ, List, map}
use Rattle.rule_store.specs.View.{RulesView}
use Rattle.log_bounds.specs.Bounds.{bounds_of}
use Rattle.log_bounds.specs.declared.bounds.LogBounds.{LogBounds}
use Rattle.index_format.specs.IsOutline.{blocks_with_logs}
use Rattle.index_format.specs.OutlineFile.{frame_rules}
use Rattle.index_format.specs.declared.outline.Outline as outlines
use Rattle.index_format.specs.declared.outline.OutlineBlock.{OutlineBlock}
use Rattle.index_format.specs.declared.stored.Stored.{Stored}
use Rattle.index_format.specs.declared.stored.Stored.TheVariants.{Parts, Outline}

-- the bounds of a block's log, from the cell of its anchor on; they are counted from the base, as that cell is
abbrev pub block_bounds : RulesView → OutlineBlock × List ℕ → LogBounds
block_bounds view it = bounds_of view it.0.cell it.1

-- the rules of an outline, without a stored symbol
abbrev pub rules_read : outlines.Outline → RulesView
rules_read outline = frame_rules outline.frame outline.alphabet outline.rules

-- the bounds of the logs of all blocks, in the order of these
abbrev pub bounds_in : outlines.Outline → List LogBounds
bounds_in outline = map (block_bounds (rules_read outline))
    (blocks_with_logs outline.blocks outline.symbols)

-- a fact of what is stored, where that is an outline
abbrev pub IfOutline : Stored → (outlines.Outline → Type 0) → Type 0
IfOutline (Parts parts) P = Unit {0}
IfOutline (Outline outline) P = P outline
