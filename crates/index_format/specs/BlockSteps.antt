-- What blocks are read over, and what is kept of them while they are read.
use Rattle.std.specs.Prelude.{◌≡◌, ◌==◌, pos, ℕ, ◌+◌, ◌-◌, ◌/◌, nat_lt, nat_le, ◌<◌, length, All, Bool, true, not, ◌&&◌, ◌++◌, List, [], IfSome, Option, None, Some, Result, Ok, Err, if◌then◌else◌}
use Rattle.std.specs.List.{flat_map}
use Rattle.packed_bits.specs.Words.{low_bits}
use Rattle.rule_store.specs.Cells.{cells_along, moved, present_in}
use Rattle.rule_store.specs.Log.{log_values}
use Rattle.rule_store.specs.Entry.{entry_of}
use Rattle.rule_store.specs.declared.entry.Entry.{Entry}
use Rattle.rule_store.specs.Table.{IsTableOf, symbols_of}
use Rattle.rule_store.specs.View.{RulesView, symbols_in}
use Rattle.rule_store.specs.declared.entry_table.EntryTable.{EntryTable}
use Rattle.track_types.specs.declared.cell.Cell.{Cell}
use Rattle.track_types.specs.declared.flaw.Kind.{Kind}
use Rattle.track_types.specs.declared.flaw.Kind.TheVariants.{Offset, OffGrid, Symbol, Duration}
use Rattle.track_types.specs.declared.flaw.Section.TheVariants.{Gaps}
use Rattle.track_types.specs.declared.format_fault.FormatFault.{FormatFault}
use Rattle.track_types.specs.declared.frame.Frame.{Frame}
use Rattle.index_format.specs.Answers.{IsFormatFault}
use Rattle.index_format.specs.Elements.{Element, told_at}
use Rattle.index_format.specs.Fields.{◌>>=◌, flaw_at}
use Rattle.index_format.specs.declared.outline.OutlineBlock.{OutlineBlock}
use Rattle.index_format.specs.OutlineBlocks.{InLog, Told, anchor_bits, anchor_instant, entry_width, is_in_grid, stays_in, when_bits}
use Rattle.index_format.specs.declared.outline.blocks.Progress.{Progress}
use Rattle.index_format.specs.declared.outline.blocks.ReadBlocks.{ReadBlocks}
use Rattle.index_format.specs.declared.outline.entries.LogRest.{LogRest}

-- a last cell, if there is one, is in the grid
abbrev pub IsKept : ℕ → Option Cell → Type 0
IsKept height last = IfSome last (λ cell. is_in_grid height cell ≡ true)

-- a log that has come to a place, and the symbols so far
abbrev pub log_with : List ℕ → LogRest → InLog
log_with symbols log = record { symbols = symbols; rest = log.rest; cell = log.cell }

-- where an entry that fits leads from a place of a log
abbrev pub log_moved : LogRest → Entry → LogRest
log_moved log entry = record { rest = log.rest - entry.duration; cell = moved log.cell (entry.dx, entry.dy) }

-- where an entry leads from a place of a log, or what is wrong with it
unfoldable pub log_past : ℕ → LogRest → Entry → Result LogRest Kind
log_past height log entry =
    if not (stays_in height log.cell entry.hull) then Err OffGrid
    else if nat_lt log.rest entry.duration then Err Duration
    else Ok (log_moved log entry)

-- where a symbol leads from a place of a log, or what is wrong with it
unfoldable pub log_after : ℕ → RulesView → LogRest → ℕ → Result LogRest Kind
log_after height view log symbol =
    if nat_le (symbols_in view) symbol then Err Symbol else log_past height log (entry_of view symbol)

-- what is told by what was read so far
abbrev pub told_of : Progress → Told
told_of progress = record {
  blocks = progress.blocks.items;
  symbols = progress.symbols.items;
  next = progress.next;
  last = progress.last;
}

-- nothing is told
abbrev pub nothing_told : Told
nothing_told = record { blocks = []; symbols = []; next = 0; last = None }

-- the instant of an object's next anchor, if there is one; its instants before `next` are told
unfoldable pub next_anchor_in : Frame → ℕ → ℕ → List Bool → Element (Option ℕ)
next_anchor_in frame index next bits = do
  gap ← told_at (flaw_at Gaps (next / frame.period) index) bits
  if gap.0 == 1 then Ok (None, gap.1)
      else if nat_le 2 gap.0 && nat_le frame.span (next + gap.0 - 1) then Err (flaw_at Gaps (next / frame.period) index Offset)
      else Ok (Some (next + (gap.0 - 1)), gap.1)

-- the blocks and symbols of what was answered, and the bits that are left, are what reading gives, unless memory was refused
abbrev pub GivesBlocks : Result ReadBlocks FormatFault → List Bool → Element Told → Type 0
GivesBlocks (Ok x) left read = (told : Told) × (read ≡ Ok (told, left)) × (told.blocks ≡ x.blocks) × (told.symbols ≡ x.symbols)
GivesBlocks (Err fault) left read = IsFormatFault read fault

-- symbols of the rules, which lead from a cell of the grid only to cells of it
pub record IsLogFrom (height : ℕ) (view : RulesView) (cell : Cell) (log : List ℕ) : Type 0 where
  pub begins : is_in_grid height cell ≡ true
  pub known : All (λ symbol. symbol < symbols_in view) log
  pub inside : All (λ (cell : Cell). is_in_grid height cell ≡ true) (present_in (cells_along cell (log_values view log)))

-- a block has all of its log, which is one from its anchor
pub record IsPlaced (height : ℕ) (view : RulesView) (it : OutlineBlock × List ℕ) : Type 0 where
  pub whole : length it.1 ≡ it.0.length
  pub log : IsLogFrom height view it.0.cell it.1

-- a block after what is told of its object: when it begins, its anchor and its log
unfoldable pub block_bits : Frame → RulesView → ℕ → Option Cell → OutlineBlock → List ℕ → List Bool
block_bits frame view next last block log =
    when_bits next (anchor_instant frame block) ++ anchor_bits frame.height last block.cell ++ flat_map (low_bits (entry_width view)) log

-- what a place past the last block shows
abbrev pub no_block : OutlineBlock
no_block = record { period = 0; index = 0; offset = 0; cell = record { x = pos 0; y = pos 0 }; length = 0 }
