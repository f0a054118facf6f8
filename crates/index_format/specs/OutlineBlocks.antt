-- The blocks of each object: they stand by period from the first instant on, and are read until the span is told.
use Rattle.std.specs.Prelude.{ℕ, zero, suc, ◌+◌, ◌-◌, ◌*◌, ◌/◌, ◌^◌, min, nat_lt, nat_le, pos, ◌-ℤ◌, Bool, true, not, ◌&&◌, List, [], ◌∷◌, ◌++◌, length, take, drop, filter, Option, Some, None, Ok, Err, ◌==◌, if◌then◌else◌}
use Rattle.std.specs.Int.{w64, cast_unsigned}
use Rattle.std.specs.Int.Signed.{le_z}
use Rattle.std.specs.List.{flat_map, sum_by}
use Rattle.packed_bits.specs.Words.{low_bits}
use Rattle.bit_stream.specs.Numbers.{number_bits}
use Rattle.spiral_code.specs.Spiral.{code_of, move_of}
use Rattle.rule_store.specs.Cells.{cell_with, moved, displacement_of}
use Rattle.rule_store.specs.Entry.{entry_of}
use Rattle.rule_store.specs.Log.{log_values}
use Rattle.rule_store.specs.View.{RulesView, symbols_in}
use Rattle.rule_store.specs.declared.entry.Entry.{Entry}
use Rattle.track_types.specs.Limits.{limit_of}
use Rattle.track_types.specs.PartsForm.{width_for}
use Rattle.track_types.specs.declared.cell.Cell.{Cell}
use Rattle.track_types.specs.declared.cell_box.CellBox.{CellBox}
use Rattle.track_types.specs.declared.flaw.Kind.TheVariants.{Offset, OffGrid, Total, Symbol, Duration}
use Rattle.track_types.specs.declared.flaw.Section.TheVariants.{Starts, Gaps, Anchors, Log}
use Rattle.track_types.specs.declared.frame.Frame.{Frame}
use Rattle.track_types.specs.declared.limit.LimitKind.TheVariants.{Symbols}
use Rattle.index_format.specs.Fields.{◌>>=◌, flaw_at}
use Rattle.index_format.specs.Elements.{Element, told_at, wide_at}
use Rattle.index_format.specs.declared.outline.OutlineBlock.{OutlineBlock}

-- the cell is one of a grid of this height, counted from its base
abbrev pub is_in_grid : ℕ → Cell → Bool
is_in_grid height cell =
    le_z (pos 0) cell.x && le_z cell.x (pos (2 ^ height - 1)) && le_z (pos 0) cell.y && le_z cell.y (pos (2 ^ height - 1))

-- a box, moved to a cell, is in the grid; so is one of no cells
abbrev pub stays_in : ℕ → Cell → Option CellBox → Bool
stays_in height cell None = true
stays_in height cell (Some box) = is_in_grid height (moved cell (box.x1, box.y1)) && is_in_grid height (moved cell (box.x2, box.y2))

-- what is told: the blocks and the symbols so far, the first instant that is not yet told, and the last cell, if there is one
pub record Told : Type 0 where
  pub blocks : List OutlineBlock
  pub symbols : List ℕ
  pub next : ℕ
  pub last : Option Cell

-- how many bits a symbol takes
abbrev pub entry_width : RulesView → ℕ
entry_width view = width_for (symbols_in view)

-- the first instant after the period of an instant, or after the span
abbrev pub period_end : Frame → ℕ → ℕ
period_end frame at = min frame.span ((at / frame.period + 1) * frame.period)

-- the cell of a block's anchor: two numbers of `height` bits, and after a block a movement from its last cell
unfoldable pub anchor_in : Frame → ℕ → ℕ → Option Cell → List Bool → Element Cell
anchor_in frame period index None bits = do
  x ← wide_at (flaw_at Anchors period index) frame.height bits
  y ← wide_at (flaw_at Anchors period index) frame.height x.1
  Ok (cell_with (pos x.0) (pos y.0), y.1)
anchor_in frame period index (Some last) bits = do
  code ← told_at (flaw_at Anchors period index) bits
  if is_in_grid frame.height (moved last (move_of code.0)) then Ok (moved last (move_of code.0), code.1) else Err (flaw_at Anchors period index OffGrid)

-- what is known within a log: the symbols so far, how many instants are left, and the last cell
pub record InLog : Type 0 where
  pub symbols : List ℕ
  pub rest : ℕ
  pub cell : Cell

-- an entry, whose box is in the grid and which fits what is left
abbrev pub judged_entry : Frame → ℕ → InLog → ℕ → Entry → List Bool → Element InLog
judged_entry frame period log symbol entry bits =
    if not (stays_in frame.height log.cell entry.hull) then Err (flaw_at Log period (length log.symbols) OffGrid)
    else if nat_lt log.rest entry.duration then Err (flaw_at Log period (length log.symbols) Duration)
    else Ok (
      record {
        symbols = log.symbols ++ symbol ∷ [];
        rest = log.rest - entry.duration;
        cell = moved log.cell (entry.dx, entry.dy);
      },
      bits,
    )

-- an entry of a log
unfoldable pub entry_in : Frame → RulesView → ℕ → InLog → List Bool → Element InLog
entry_in frame view period log bits =
    if nat_le (limit_of Symbols) (length log.symbols) then Err (flaw_at Log period (length log.symbols) Total) else do
      symbol ← wide_at (flaw_at Log period (length log.symbols)) (entry_width view) bits
      if nat_le (symbols_in view) symbol.0 then Err (flaw_at Log period (length log.symbols) Symbol)
          else judged_entry frame period log symbol.0 (entry_of view symbol.0) symbol.1

-- entries, at most so many, until nothing is left
unfoldable pub log_in : ℕ → Frame → RulesView → ℕ → InLog → List Bool → Element InLog
log_in zero frame view period log bits = Ok (log, bits)
log_in (suc more) frame view period log bits = if log.rest == 0 then Ok (log, bits) else do
  entry ← entry_in frame view period log bits
  log_in more frame view period entry.0 entry.1

-- a block of an object whose anchor is at an instant
unfoldable pub block_in : Frame → RulesView → ℕ → Told → ℕ → List Bool → Element Told
block_in frame view index told at bits = do
  anchor ← anchor_in frame (at / frame.period) index told.last bits
  log ← log_in (period_end frame at - 1 - at) frame view (at / frame.period)
      (record { symbols = told.symbols; rest = period_end frame at - 1 - at; cell = anchor.0 }) anchor.1
  Ok (
    record {
      blocks = told.blocks ++ record {
        period = at / frame.period;
        index = index;
        offset = at - at / frame.period * frame.period;
        cell = anchor.0;
        length = length log.0.symbols - length told.symbols;
      } ∷ [];
      symbols = log.0.symbols;
      next = period_end frame at;
      last = Some log.0.cell;
    },
    log.1,
  )

-- further blocks of an object, at most so many, until its last one or the span is told
unfoldable pub further_in : ℕ → Frame → RulesView → ℕ → Told → List Bool → Element Told
further_in zero frame view index told bits = Ok (told, bits)
further_in (suc more) frame view index told bits = if nat_le frame.span told.next then Ok (told, bits) else do
  gap ← told_at (flaw_at Gaps (told.next / frame.period) index) bits
  if gap.0 == 1 then Ok (told, gap.1)
      else if nat_le 2 gap.0 && nat_le frame.span (told.next + gap.0 - 1) then Err (flaw_at Gaps (told.next / frame.period) index Offset) else do
        block ← block_in frame view index told (told.next + (gap.0 - 1)) gap.1
        further_in more frame view index block.0 block.1

-- all blocks of an object, after those of the objects before it
unfoldable pub object_blocks_in : Frame → RulesView → ℕ → Told → List Bool → Element Told
object_blocks_in frame view index before bits = do
  start ← told_at (flaw_at Starts 0 index) bits
  if nat_lt frame.span start.0 then Err (flaw_at Starts 0 index Offset)
      else if start.0 == frame.span then Ok (record { blocks = before.blocks; symbols = before.symbols; next = 0; last = None }, start.1) else do
        block ← block_in frame view index (record { blocks = before.blocks; symbols = before.symbols; next = 0; last = None }) start.0 start.1
        further_in frame.span frame view index block.0 block.1

-- the blocks of so many objects from a place on
unfoldable pub blocks_in : ℕ → Frame → RulesView → ℕ → Told → List Bool → Element Told
blocks_in zero frame view index told bits = Ok (told, bits)
blocks_in (suc more) frame view index told bits = do
  object ← object_blocks_in frame view index told bits
  blocks_in more frame view (suc index) object.0 object.1

-- the instant of a block's anchor, counted from the first
abbrev pub anchor_instant : Frame → OutlineBlock → ℕ
anchor_instant frame block = block.period * frame.period + block.offset

-- when the next block begins: the instant of an object's first block; else 0 at the first instant not yet told, and after it one more
-- than how far it is from there
unfoldable pub when_bits : ℕ → ℕ → List Bool
when_bits next at = number_bits (if next == 0 then at else if at == next then 0 else (at - next + 1))

-- the cell of an anchor
unfoldable pub anchor_bits : ℕ → Option Cell → Cell → List Bool
anchor_bits height None cell = low_bits height (cast_unsigned w64 cell.x) ++ low_bits height (cast_unsigned w64 cell.y)
anchor_bits height (Some last) cell = number_bits (code_of (cell.x -ℤ last.x) (cell.y -ℤ last.y))

-- the cell after a log
abbrev pub cell_after : RulesView → Cell → List ℕ → Cell
cell_after view cell log = moved cell (displacement_of (log_values view log))

-- the end of an object's blocks: the span if it has none, 1 if the span is not yet told, and else nothing
unfoldable pub end_bits : Frame → ℕ → List Bool
end_bits frame next = if next == 0 then number_bits frame.span else if nat_lt next frame.span then number_bits 1 else []

-- blocks of one object and the symbols of their logs, after what is told of it
unfoldable pub object_bits : Frame → RulesView → ℕ → Option Cell → List OutlineBlock → List ℕ → List Bool
object_bits frame view next last [] symbols = end_bits frame next
object_bits frame view next last (block ∷ blocks) symbols =
    when_bits next (anchor_instant frame block) ++ anchor_bits frame.height last block.cell
    ++ flat_map (low_bits (entry_width view)) (take block.length symbols)
    ++ object_bits frame view (period_end frame (anchor_instant frame block))
    (Some (cell_after view block.cell (take block.length symbols))) blocks (drop block.length symbols)

-- the blocks of the objects at these places, and the symbols of their logs
unfoldable pub blocks_bits : Frame → RulesView → List OutlineBlock → List ℕ → List ℕ → List Bool
blocks_bits frame view blocks [] symbols = []
blocks_bits frame view blocks (index ∷ indices) symbols =
    let own = filter (λ (block : OutlineBlock). block.index == index) blocks in
    let long = sum_by (λ (block : OutlineBlock). block.length) own in
    object_bits frame view 0 None own (take long symbols) ++ blocks_bits frame view blocks indices (drop long symbols)
