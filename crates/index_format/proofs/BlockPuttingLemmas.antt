-- Logs and blocks on their way into bits.
use Rattle.std.proofs.Common.{◌≡◌, ℕ, ◌+◌, ◌<◌, ◌≤◌, ◌+ℤ◌, true, Bool, List, [], ◌∷◌, ◌++◌, length, take, drop, get_or, Option, None, Some, refl, sym, ap, subst, ◌∙◌, arith, append_assoc, append-nil}
use Rattle.std.specs.Prelude.{All}
use Rattle.std.specs.List.{flat_map, sum_by}
use Rattle.std.proofs.lemmas.List.Sums.{sum_by-cons}
use Rattle.std.proofs.lemmas.Int.{ints}
use Rattle.std.proofs.lemmas.List.{drop-drop, drop_all, drop_more, length-take}
use Rattle.std.proofs.lemmas.List.Elements.{All-head, All-tail}
use Rattle.list_laws.proofs.FrontLemmas.{All-back}
use Rattle.packed_bits.specs.Words.{low_bits}
use Rattle.rule_store.specs.Cells.{cells_along, displacement_of, moved, present_in}
use Rattle.rule_store.specs.Entry.{entry_of}
use Rattle.rule_store.specs.Expansion.{values_of}
use Rattle.rule_store.specs.Log.{log_values}
use Rattle.rule_store.specs.View.{RulesView, symbols_in}
use Rattle.rule_store.specs.declared.entry_table.EntryTable.{EntryTable}
use Rattle.rule_store.proofs.CellLemmas.{displacement_of-columns, displacement_of-lines, moved-none, same_cell}
use Rattle.track_types.specs.declared.cell.Cell.{Cell}
use Rattle.track_types.specs.declared.frame.Frame.{Frame}
use Rattle.index_format.specs.OutlineBlocks.{anchor_instant, cell_after, end_bits, entry_width, is_in_grid, object_bits, period_end}
use Rattle.index_format.specs.IsOutline.{blocks_with_logs}
use Rattle.rule_store.specs.Table.{IsWholeTable}
use Rattle.index_format.specs.BlockSteps.{IsKept, IsLogFrom, IsPlaced, block_bits}
use Rattle.index_format.specs.declared.outline.OutlineBlock.{OutlineBlock}
use Rattle.index_format.proofs.AlongLemmas.{end-inside, present-joined}
use Rattle.list_laws.proofs.FrontLemmas.{All-front}

-- the cell to which an entry leads
abbrev pub entry_end : RulesView → Cell → ℕ → Cell
entry_end view cell symbol = moved cell ((entry_of view symbol).dx, (entry_of view symbol).dy)

-- a log ends where its rest does, from where its first symbol leads
pub cell_after-cons : (view : RulesView) (cell : Cell) (symbol : ℕ) (log : List ℕ)
    → cell_after view cell (symbol ∷ log) ≡ cell_after view (entry_end view cell symbol) log
unfolding log_values entry_of
cell_after-cons view cell symbol log =
    let xs = values_of view symbol in
    let ys = log_values view log in
    same_cell (cell.x +ℤ (displacement_of (xs ++ ys)).0) (cell.y +ℤ (displacement_of (xs ++ ys)).1)
    ((cell.x +ℤ (displacement_of xs).0) +ℤ (displacement_of ys).0) ((cell.y +ℤ (displacement_of xs).1) +ℤ (displacement_of ys).1)
    (omega (arith, ints, displacement_of-columns xs ys)) (omega (arith, ints, displacement_of-lines xs ys))

-- a log of no symbols ends where it begins
pub cell_after-nil : (view : RulesView) (cell : Cell) → cell_after view cell [] ≡ cell
unfolding log_values displacement_of
cell_after-nil view cell = moved-none cell

module _ (height : ℕ) (view : RulesView) (cell : Cell) (symbol : ℕ) (log : List ℕ) (is : IsLogFrom height view cell (symbol ∷ log)) where
  -- its first symbol is one of the rules
  pub log_from-known : symbol < symbols_in view
  log_from-known = All-head (λ symbol. symbol < symbols_in view) symbol log is.known

  -- the first symbol leads only to cells of the grid
  pub log_from-first : All (λ (cell : Cell). is_in_grid height cell ≡ true) (present_in (cells_along cell (values_of view symbol)))
  unfolding log_values
  log_from-first =
      All-front (λ (cell : Cell). is_in_grid height cell ≡ true) (present_in (cells_along cell (values_of view symbol)))
      (present_in (cells_along (moved cell (displacement_of (values_of view symbol))) (log_values view log)))
      (subst (All (λ (cell : Cell). is_in_grid height cell ≡ true)) (present-joined cell (values_of view symbol) (log_values view log)) is.inside)

  -- and so do the others from there
  pub log_from-next : IsLogFrom height view (entry_end view cell symbol) log
  unfolding log_values entry_of
  log_from-next = record {
    begins = end-inside height cell (values_of view symbol) is.begins log_from-first;
    known = All-tail (λ symbol. symbol < symbols_in view) symbol log is.known;
    inside = All-back (λ (cell : Cell). is_in_grid height cell ≡ true) (present_in (cells_along cell (values_of view symbol)))
        (present_in (cells_along (moved cell (displacement_of (values_of view symbol))) (log_values view log)))
        (subst (All (λ (cell : Cell). is_in_grid height cell ≡ true)) (present-joined cell (values_of view symbol) (log_values view log)) is.inside);
  }

-- symbols that were put, and those that are left, are all
pub record IsPuttingLog (table : EntryTable) (height i : ℕ) (cell : Cell) (bits : List Bool) (start : Cell) (log : List ℕ) (before : List Bool) : Type 0 where
  pub some : (view : RulesView) × IsWholeTable view table × IsLogFrom height view cell (drop i log)
  pub ends : (view : RulesView) → IsWholeTable view table → cell_after view cell (drop i log) ≡ cell_after view start log
  pub joined : (view : RulesView) → IsWholeTable view table
      → bits ++ flat_map (low_bits (entry_width view)) (drop i log) ≡ before ++ flat_map (low_bits (entry_width view)) log

module _ {table : EntryTable} {height i : ℕ} {cell : Cell} {bits : List Bool} {start : Cell} {log : List ℕ} {before : List Bool}
    (putting : IsPuttingLog table height i cell bits start log before) where
  -- all symbols were put
  pub putting_log-cell : length log ≤ i → (view : RulesView) → IsWholeTable view table → cell ≡ cell_after view start log
  putting_log-cell over view known =
      sym (cell_after-nil view cell) ∙ ap (cell_after view cell) (sym (drop_all i log over)) ∙ putting.ends view known

  pub putting_log-bits : length log ≤ i → (view : RulesView) → IsWholeTable view table
      → bits ≡ before ++ flat_map (low_bits (entry_width view)) log
  putting_log-bits over view known =
      sym (append-nil bits) ∙ ap (λ log. bits ++ flat_map (low_bits (entry_width view)) log) (sym (drop_all i log over)) ∙ putting.joined view known

  module _ (under : i < length log) where
    split : drop i log ≡ get_or log i 0 ∷ drop (i + 1) log
    split = drop_more log i 0 under

    -- one symbol more
    pub putting_log-more : (next : Cell) (after : List Bool)
        → ((view : RulesView) → IsWholeTable view table → next ≡ entry_end view cell (get_or log i 0))
        → ((view : RulesView) → IsWholeTable view table → after ≡ bits ++ low_bits (entry_width view) (get_or log i 0))
        → IsPuttingLog table height (i + 1) next after start log before
    putting_log-more next after leads is =
        let symbol = get_or log i 0 in
        let rest = drop (i + 1) log in
        record {
          some = (
            putting.some.0,
            putting.some.1,
            subst (λ cell. IsLogFrom height putting.some.0 cell rest) (sym (leads putting.some.0 putting.some.1))
                (log_from-next height putting.some.0 cell symbol rest (subst (IsLogFrom height putting.some.0 cell) split putting.some.2)),
          );
          ends = λ view known. ap (λ cell. cell_after view cell rest) (leads view known) ∙ sym (cell_after-cons view cell symbol rest)
              ∙ ap (cell_after view cell) (sym split) ∙ putting.ends view known;
          joined = λ view known. ap (λ front. front ++ flat_map (low_bits (entry_width view)) rest) (is view known)
              ∙ append_assoc bits (low_bits (entry_width view) symbol) (flat_map (low_bits (entry_width view)) rest)
              ∙ ap (λ log. bits ++ flat_map (low_bits (entry_width view)) log) (sym split) ∙ putting.joined view known;
        }

-- a block's bits before those of the others
pub object_bits-cons : (frame : Frame) (view : RulesView) (next : ℕ) (last : Option Cell) (block : OutlineBlock) (blocks : List OutlineBlock) (log : List ℕ)
    → object_bits frame view next last (block ∷ blocks) log
    ≡ block_bits frame view next last block (take block.length log)
    ++ object_bits frame view (period_end frame (anchor_instant frame block)) (Some (cell_after view block.cell (take block.length log))) blocks (drop block.length log)
unfolding object_bits block_bits
object_bits-cons frame view next last block blocks log = refl

pub object_bits-nil : (frame : Frame) (view : RulesView) (next : ℕ) (last : Option Cell) (log : List ℕ)
    → object_bits frame view next last [] log ≡ end_bits frame next
unfolding object_bits
object_bits-nil frame view next last log = refl

-- a block that has all of its log has no more than there is
pub placed-within : (height : ℕ) (view : RulesView) (block : OutlineBlock) (log : List ℕ)
    → IsPlaced height view (block, take block.length log) → block.length ≤ length log
placed-within height view block log placed = omega (arith, placed.whole, length-take block.length log)

-- blocks of an object that were put, and those that are left, are all
pub record IsPuttingObject (table : EntryTable) (frame : Frame) (i next : ℕ) (last : Option Cell) (rest : List ℕ) (bits : List Bool)
    (blocks : List OutlineBlock) (log : List ℕ) (before : List Bool) : Type 0 where
  pub kept : IsKept frame.height last
  pub some : (view : RulesView) × IsWholeTable view table × All (IsPlaced frame.height view) (blocks_with_logs (drop i blocks) rest)
  pub joined : (view : RulesView) → IsWholeTable view table
      → bits ++ object_bits frame view next last (drop i blocks) rest ≡ before ++ object_bits frame view 0 None blocks log
  pub left : drop (sum_by (λ (block : OutlineBlock). block.length) (drop i blocks)) rest
      ≡ drop (sum_by (λ (block : OutlineBlock). block.length) blocks) log

module _ {table : EntryTable} {frame : Frame} {i next : ℕ} {last : Option Cell} {rest : List ℕ} {bits : List Bool}
    {blocks : List OutlineBlock} {log : List ℕ} {before : List Bool}
    (putting : IsPuttingObject table frame i next last rest bits blocks log before) where
  -- all blocks were put, and then the end is
  pub putting_object-bits : length blocks ≤ i → (after : List Bool) → after ≡ bits ++ end_bits frame next
      → (view : RulesView) → IsWholeTable view table → after ≡ before ++ object_bits frame view 0 None blocks log
  putting_object-bits over after is view known =
      is ∙ ap (λ end. bits ++ end) (sym (object_bits-nil frame view next last rest))
      ∙ ap (λ blocks. bits ++ object_bits frame view next last blocks rest) (sym (drop_all i blocks over)) ∙ putting.joined view known

  module _ (d : OutlineBlock) (under : i < length blocks) where
    parts : drop i blocks ≡ get_or blocks i d ∷ drop (i + 1) blocks
    parts = drop_more blocks i d under

    module _ (view : RulesView) (all : All (IsPlaced frame.height view) (blocks_with_logs (drop i blocks) rest)) where
      both : All (IsPlaced frame.height view) ((get_or blocks i d, take (get_or blocks i d).length rest)
          ∷ blocks_with_logs (drop (i + 1) blocks) (drop (get_or blocks i d).length rest))
      unfolding blocks_with_logs
      both = subst (λ blocks. All (IsPlaced frame.height view) (blocks_with_logs blocks rest)) parts all

      placed : IsPlaced frame.height view (get_or blocks i d, take (get_or blocks i d).length rest)
      placed = All-head (IsPlaced frame.height view) _ _ both

    -- the next block has all of its log
    pub putting_object-placed : (view : RulesView) × IsWholeTable view table
        × IsPlaced frame.height view (get_or blocks i d, take (get_or blocks i d).length rest)
    putting_object-placed = (putting.some.0, putting.some.1, placed putting.some.0 putting.some.2)

    -- one block more
    pub putting_object-more : (now : ℕ) (cell : Option Cell) (after : List Bool)
        → IsKept frame.height cell
        → now ≡ period_end frame (anchor_instant frame (get_or blocks i d))
        → ((view : RulesView) → IsWholeTable view table → cell ≡ Some (cell_after view (get_or blocks i d).cell (take (get_or blocks i d).length rest)))
        → ((view : RulesView) → IsWholeTable view table → after ≡ bits ++ block_bits frame view next last (get_or blocks i d) (take (get_or blocks i d).length rest))
        → IsPuttingObject table frame (i + 1) now cell (drop (get_or blocks i d).length rest) after blocks log before
    putting_object-more now cell after kept now_is cell_is is =
        let block = get_or blocks i d in
        let others = drop (i + 1) blocks in
        let own = take block.length rest in
        let behind = drop block.length rest in
        record {
          kept = kept;
          some = (
            putting.some.0,
            putting.some.1,
            All-tail (IsPlaced frame.height putting.some.0) (block, own) (blocks_with_logs others behind)
                (both putting.some.0 putting.some.2),
          );
          joined = λ view known.
              ap (λ front. front ++ object_bits frame view now cell others behind) (is view known)
              ∙ append_assoc bits (block_bits frame view next last block own) (object_bits frame view now cell others behind)
              ∙ ap (λ now. bits ++ (block_bits frame view next last block own ++ object_bits frame view now cell others behind)) now_is
              ∙ ap (λ cell. bits ++ (block_bits frame view next last block own
              ++ object_bits frame view (period_end frame (anchor_instant frame block)) cell others behind)) (cell_is view known)
              ∙ ap (λ all. bits ++ all) (sym (object_bits-cons frame view next last block others rest))
              ∙ ap (λ blocks. bits ++ object_bits frame view next last blocks rest) (sym parts) ∙ putting.joined view known;
          left = drop-drop (sum_by (λ (block : OutlineBlock). block.length) others) block.length rest
              ∙ ap (λ n. drop n rest) (sym (sum_by-cons (λ (block : OutlineBlock). block.length) block others))
              ∙ ap (λ blocks. drop (sum_by (λ (block : OutlineBlock). block.length) blocks) rest) (sym parts) ∙ putting.left;
        }
