-- Logs by the new numbers of their symbols: they lead to the same cells, last as long, and are sound where they were.
use Rattle.std.proofs.Common.{◌≡◌, ℕ, zero, suc, ◌+◌, ◌-◌, ◌<◌, List, [], ◌∷◌, drop, length, map, take, refl, ap, ◌∙◌, arith}
use Rattle.std.specs.Prelude.{slice_index}
use Rattle.std.specs.List.{Contains}
use Rattle.std.proofs.lemmas.List.{drop-map, get_or-map, get_or_default, length-map, take-map}
use Rattle.std.proofs.lemmas.List.Sums.{sum_by-cons}
use Rattle.list_laws.proofs.MemberLemmas.{first_member, later_member}
use Rattle.list_laws.proofs.PartLemmas.{member_of_drop}
use Rattle.track_types.specs.declared.cell.Cell.{Cell}
use Rattle.track_types.specs.declared.frame.Frame.{Frame}
use Rattle.rule_store.specs.View.{RulesView, symbols_in}
use Rattle.rule_store.specs.Cells.{displacement_of, moved}
use Rattle.rule_store.specs.Entry.{duration_of, entry_of}
use Rattle.rule_store.specs.Expansion.{values_of}
use Rattle.rule_order.specs.Layers.{AreBelow}
use Rattle.rule_order.specs.Order.{new_symbol}
use Rattle.rule_order.specs.View.{settled_view}
use Rattle.rule_order.proofs.KeptLemmas.{expansion_of-settled, values_of-settled}
use Rattle.snapshots.specs.Parts.{block_log}
use Rattle.log_bounds.specs.Bounds.{cell_after, cell_before, duration_of_log}
use Rattle.snapshots.specs.SoundParts.{IsSoundLog}
use Rattle.snapshots.specs.declared.anchored.Anchored.{Anchored}

-- what is in the front of a list is in the list
member_of_take : (k : ℕ) (xs : List ℕ) (x : ℕ) → Contains (take k xs) x → Contains xs x
member_of_take zero xs x inside = absurd (omega (arith, inside.1))
member_of_take (suc k) [] x inside = inside
member_of_take (suc k) (y ∷ ys) x (zero, within, is) = (zero, omega arith, is)
member_of_take (suc k) (y ∷ ys) x (suc place, within, is) =
    later_member x y ys (member_of_take k ys x (place, omega (arith, within), is))

module _ (view : RulesView) (below : AreBelow (length view.alphabet) view.rules) where
  abbrev new : ℕ → ℕ
  new = new_symbol (length view.alphabet) view.rules

  -- the symbols of a log are those of the grammar
  abbrev pub AreKnown : List ℕ → Type 0
  AreKnown log = (symbol : ℕ) → Contains log symbol → symbol < symbols_in view

  -- the log of a block by the new numbers
  pub block_log-settled : (block : Anchored) → block_log (settled_view view) block ≡ map new (block_log view block)
  block_log-settled block =
      ap (take (block.from + block.len - block.from)) (drop-map new block.from view.symbols)
      ∙ take-map new (block.from + block.len - block.from) (drop block.from view.symbols)

  -- the symbols of a block's log are stored
  pub known_log : AreKnown view.symbols → (block : Anchored) → AreKnown (block_log view block)
  known_log known block symbol inside =
      known symbol (member_of_drop block.from view.symbols symbol
      (member_of_take (block.from + block.len - block.from) (drop block.from view.symbols) symbol inside))

  -- a log leads to the cell that it led to
  pub cell_after-settled : (cell : Cell) (log : List ℕ) → AreKnown log →
      cell_after (settled_view view) cell (map new log) ≡ cell_after view cell log
  unfolding cell_after
  cell_after-settled cell [] known = refl
  cell_after-settled cell (symbol ∷ log) known =
      ap (λ values. cell_after (settled_view view) (moved cell (displacement_of values)) (map new log))
      (values_of-settled view below symbol (known symbol (first_member symbol log)))
      ∙ cell_after-settled (moved cell (displacement_of (values_of view symbol))) log
      (λ other inside. known other (later_member other symbol log inside))

  -- and lasts as long
  pub duration_of_log-settled : (log : List ℕ) → AreKnown log →
      duration_of_log (settled_view view) (map new log) ≡ duration_of_log view log
  unfolding duration_of_log duration_of
  duration_of_log-settled [] known = refl
  duration_of_log-settled (symbol ∷ log) known =
      let rest = duration_of_log-settled log (λ other inside. known other (later_member other symbol log inside)) in
      omega (
        arith,
        ap length (expansion_of-settled view below symbol (known symbol (first_member symbol log))),
        sum_by-cons (duration_of (settled_view view)) (new symbol) (map new log),
        sum_by-cons (duration_of view) symbol log,
        rest,
      )

  -- a sound log stays sound
  pub IsSoundLog-settled : (frame : Frame) (number : ℕ) (block : Anchored) → AreKnown (block_log view block) →
      IsSoundLog frame view number block → IsSoundLog frame (settled_view view) number block
  unfolding entry_of
  IsSoundLog-settled frame number block known is =
      let log : List ℕ = block_log view block in
      let same = block_log-settled block in
      record {
        placed = λ place within.
            let inside : place < length log = omega (arith, ap length same, length-map log new) in
            let symbol : ℕ = slice_index log place in
            let member : symbol < symbols_in view = known symbol (place, inside, get_or_default log place symbol 0 inside) in
            let at : slice_index (block_log (settled_view view) block) place ≡ new symbol =
            ap (λ l. slice_index l place) same ∙ get_or-map new log place 0 0 inside in
            let front : cell_before (settled_view view) block.cell (block_log (settled_view view) block) place
            ≡ cell_before view block.cell log place =
            ap (λ l. cell_after (settled_view view) block.cell (take place l)) same
            ∙ ap (cell_after (settled_view view) block.cell) (take-map new place log)
            ∙ cell_after-settled block.cell (take place log) (λ other in_front. known other (member_of_take place log other in_front)) in
            rw (at, front, values_of-settled view below symbol member) (is.placed place inside);
        lasts = ap (duration_of_log (settled_view view)) same ∙ duration_of_log-settled log known ∙ is.lasts;
      }
