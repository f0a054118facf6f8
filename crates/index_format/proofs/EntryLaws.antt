-- Logs: what was put is read.
use Rattle.std.proofs.Common.{◌≡◌, ℕ, zero, suc, ◌+◌, ◌-◌, ◌<◌, ◌≤◌, ◌^◌, true, Bool, List, [], ◌∷◌, ◌++◌, length, None, Ok, inl, inr, refl, sym, ap, ◌∙◌, arith, append_assoc, append-nil}
use Rattle.std.specs.List.{flat_map, sum_by}
use Rattle.std.proofs.lemmas.Bool.{cases_lt}
use Rattle.std.proofs.lemmas.List.{length-append}
use Rattle.std.proofs.lemmas.List.Sums.{sum_by-cons}
use Rattle.packed_bits.specs.Words.{low_bits}
use Rattle.rule_store.specs.Boxes.{bounding_box_of}
use Rattle.rule_store.specs.Entry.{duration_of, entry_of}
use Rattle.rule_store.specs.Expansion.{expansion_of, values_of}
use Rattle.rule_store.specs.Flaws.{rule_flaw, rule_parts}
use Rattle.rule_store.specs.View.{RulesView, symbols_in}
use Rattle.rule_store.proofs.ExpansionLemmas.{expansion_of-rule, expansion_of-terminal, length-values_of}
use Rattle.rule_store.proofs.FlawLemmas.{rule-sound}
use Rattle.track_types.specs.Limits.{limit_of}
use Rattle.track_types.specs.declared.cell.Cell.{Cell}
use Rattle.track_types.specs.declared.flaw.Section.TheVariants.{Log}
use Rattle.track_types.specs.declared.frame.Frame.{Frame}
use Rattle.track_types.specs.declared.limit.LimitKind.TheVariants.{Symbols}
use Rattle.index_format.specs.Fields.{flaw_at}
use Rattle.index_format.specs.OutlineBlocks.{cell_after, entry_in, entry_width, log_in, stays_in}
use Rattle.index_format.specs.BlockSteps.{IsLogFrom, log_with}
use Rattle.index_format.specs.declared.outline.entries.LogRest.{LogRest}
use Rattle.index_format.proofs.AlongLemmas.{stays_in-along}
use Rattle.index_format.proofs.WidthLemmas.{width_for-few}
use Rattle.index_format.proofs.EntryLemmas.{entry_in-told, entry_read, log_after-known, log_in-filled, log_in-more, log_past-fits}
use Rattle.index_format.proofs.BlockPuttingLemmas.{cell_after-cons, cell_after-nil, entry_end, log_from-first, log_from-known, log_from-next}
use Rattle.index_format.proofs.ElementLemmas.{bind-ok, wide_at-low_bits}

-- the rules of an index: each of their symbols lasts, and fits the width of an entry
pub record AreLasting (view : RulesView) : Type 0 where
  pub few : symbols_in view ≤ 2 ^ 26
  pub each : (symbol : ℕ) → symbol < symbols_in view → 1 ≤ duration_of view symbol

-- rules that are not flawed last
pub lasting-rules : (view : RulesView) → rule_flaw view ≡ None → symbols_in view ≤ 2 ^ 26 → AreLasting view
unfolding duration_of
lasting-rules view sound few = record { few = few; each = λ symbol known. lasts (suc symbol) symbol (omega arith) known }
  where
    lasts : (n symbol : ℕ) → symbol < n → symbol < symbols_in view → 1 ≤ duration_of view symbol
    lasts zero symbol below known = absurd (omega (arith, below))
    lasts (suc n) symbol below known = elim (cases_lt symbol (length view.alphabet)) [
      | inl terminal ↦
          let one : length (expansion_of view symbol) ≡ 1 = ap length (expansion_of-terminal view symbol terminal) in
          omega (arith, one)
      | inr rule ↦
          let j = symbol - length view.alphabet in
          let parts = rule_parts view.rules j in
          let within : j < length view.rules = omega (arith, known, rule) in
          let is = rule-sound view j sound within in
          let place : length view.alphabet + j ≡ symbol = omega (arith, rule) in
          let left : 1 ≤ length (expansion_of view parts.0) = lasts n parts.0 (omega (arith, is.left, place, below)) (omega (arith, is.left, place, known)) in
          let both = ap length (expansion_of-rule view j parts.0 parts.1 within refl is.left is.right)
          ∙ length-append (expansion_of view parts.0) (expansion_of view parts.1) in
          let long : length (expansion_of view symbol) ≡ length (expansion_of view parts.0) + length (expansion_of view parts.1) =
          ap (λ symbol. length (expansion_of view symbol)) (sym place) ∙ both in
          omega (arith, long, left)
    ]

-- the box of an entry is that of its values
stays_entry : (height : ℕ) (view : RulesView) (symbol : ℕ) (cell : Cell) → stays_in height cell (bounding_box_of (values_of view symbol)) ≡ true
    → stays_in height cell (entry_of view symbol).hull ≡ true
unfolding entry_of
stays_entry height view symbol cell stays = stays

module _ (frame : Frame) (view : RulesView) (lasting : AreLasting view) (period : ℕ) where
  -- an entry that was put is read
  pub entry-again : (log : LogRest) (symbols : List ℕ) (symbol : ℕ) (rest : List Bool) → length symbols < limit_of Symbols
      → symbol < symbols_in view → stays_in frame.height log.cell (entry_of view symbol).hull ≡ true → duration_of view symbol ≤ log.rest
      → entry_in frame view period (log_with symbols log) (low_bits (entry_width view) symbol ++ rest)
      ≡ Ok (log_with (symbols ++ symbol ∷ []) (record { rest = log.rest - duration_of view symbol; cell = entry_end view log.cell symbol }), rest)
  unfolding entry_of
  entry-again log symbols symbol rest room known stays fits =
      let small : symbol < 2 ^ entry_width view = omega (arith, known, (width_for-few (symbols_in view) lasting.few).1) in
      let lasts : (entry_of view symbol).duration ≡ duration_of view symbol = length-values_of view symbol in
      let leads = log_after-known frame.height view log symbol (entry_of view symbol) refl known
      ∙ log_past-fits frame.height log (entry_of view symbol) stays (omega (arith, lasts, fits)) in
      entry_in-told frame view period log symbols (low_bits (entry_width view) symbol ++ rest) room symbol rest
      (wide_at-low_bits (flaw_at Log period (length symbols)) (entry_width view) symbol rest small)
      ∙ ap (entry_read period symbols symbol rest) leads
      ∙ ap (λ d. Ok (log_with (symbols ++ symbol ∷ []) (record { rest = log.rest - d; cell = entry_end view log.cell symbol }), rest)) lasts

  -- a log that was put is read
  pub log-again : (log : List ℕ) (cell : Cell) (symbols : List ℕ) (left most : ℕ) (rest : List Bool)
      → IsLogFrom frame.height view cell log → sum_by (duration_of view) log ≡ left → left ≤ most
      → length symbols + length log ≤ limit_of Symbols
      → log_in most frame view period (log_with symbols (record { rest = left; cell = cell }))
      (flat_map (low_bits (entry_width view)) log ++ rest)
      ≡ Ok (log_with (symbols ++ log) (record { rest = 0; cell = cell_after view cell log }), rest)
  log-again [] cell symbols left most rest from fills enough room =
      log_in-filled frame view period (log_with symbols (record { rest = left; cell = cell })) rest most (sym fills)
      ∙ rw (← fills, append-nil symbols, cell_after-nil view cell) refl
  log-again (symbol ∷ log) cell symbols left zero rest from fills enough room =
      let known = log_from-known frame.height view cell symbol log from in
      let some = lasting.each symbol known in
      absurd (omega (arith, some, fills, enough, sum_by-cons (duration_of view) symbol log))
  log-again (symbol ∷ log) cell symbols left (suc most) rest from fills enough room =
      let d = duration_of view symbol in
      let bits = flat_map (low_bits (entry_width view)) log ++ rest in
      let first = low_bits (entry_width view) symbol in
      let known = log_from-known frame.height view cell symbol log from in
      let some = lasting.each symbol known in
      let sum = sum_by-cons (duration_of view) symbol log in
      let stays = stays_in-along frame.height cell (values_of view symbol) (log_from-first frame.height view cell symbol log from) in
      let here : LogRest = record { rest = left; cell = cell } in
      let next : LogRest = record { rest = left - d; cell = entry_end view cell symbol } in
      let one = entry-again here symbols symbol bits (omega (arith, room)) known (stays_entry frame.height view symbol cell stays) (omega (arith, fills, sum)) in
      let long = length-append symbols (symbol ∷ []) in
      let others = log-again log (entry_end view cell symbol) (symbols ++ symbol ∷ []) (left - d) most rest
      (log_from-next frame.height view cell symbol log from) (omega (arith, fills, sum)) (omega (arith, some, enough)) (omega (arith, room, long)) in
      ap (λ bits. log_in (suc most) frame view period (log_with symbols here) bits) (append_assoc first (flat_map (low_bits (entry_width view)) log) rest)
      ∙ log_in-more frame view period (log_with symbols here) (first ++ bits) most (omega (arith, fills, sum, some))
      ∙ bind-ok (entry_in frame view period (log_with symbols here) (first ++ bits)) (λ entry. log_in most frame view period entry.0 entry.1)
      (log_with (symbols ++ symbol ∷ []) next, bits) one
      ∙ others
      ∙ ap (λ symbols. Ok (log_with symbols (record { rest = 0; cell = cell_after view (entry_end view cell symbol) log }), rest))
      (append_assoc symbols (symbol ∷ []) log)
      ∙ ap (λ cell. Ok (log_with (symbols ++ symbol ∷ log) (record { rest = 0; cell = cell }), rest)) (sym (cell_after-cons view cell symbol log))
