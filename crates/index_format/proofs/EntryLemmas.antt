-- Entries of a log, read one after the other.
use Rattle.std.proofs.Common.{◌≡◌, ℕ, zero, suc, ◌+◌, ◌-◌, ◌<◌, ◌≤◌, true, false, nat_le, nat_lt, Bool, List, [], ◌∷◌, ◌++◌, length, Result, Ok, Err, inl, inr, refl, sym, ap, ◌∙◌, arith}
use Rattle.std.proofs.lemmas.Bool.{cases_Bool}
use Rattle.std.proofs.lemmas.Bool.Decides.{nat_tests}
use Rattle.rule_store.specs.Cells.{moved}
use Rattle.rule_store.specs.Entry.{entry_of}
use Rattle.rule_store.specs.Expansion.{values_of}
use Rattle.rule_store.specs.View.{RulesView, symbols_in}
use Rattle.rule_store.specs.declared.entry.Entry.{Entry}
use Rattle.track_types.specs.Limits.{limit_of}
use Rattle.track_types.specs.declared.cell.Cell.{Cell}
use Rattle.track_types.specs.declared.flaw.Kind.{Kind}
use Rattle.track_types.specs.declared.flaw.Kind.TheVariants.{Duration, OffGrid, Symbol, Total}
use Rattle.track_types.specs.declared.flaw.Section.TheVariants.{Log}
use Rattle.track_types.specs.declared.format_fault.FormatFault.{FormatFault}
use Rattle.track_types.specs.declared.format_fault.FormatFault.TheVariants as fault
use Rattle.track_types.specs.declared.frame.Frame.{Frame}
use Rattle.track_types.specs.declared.limit.LimitKind.TheVariants.{Symbols}
use Rattle.index_format.specs.Answers.{IsFormatFault}
use Rattle.index_format.specs.Elements.{Element, wide_at}
use Rattle.index_format.specs.Fields.{◌>>=◌, flaw_at}
use Rattle.index_format.specs.OutlineBlocks.{InLog, entry_in, entry_width, is_in_grid, log_in, stays_in}
use Rattle.rule_store.specs.Table.{IsWholeTable}
use Rattle.index_format.specs.BlockSteps.{log_after, log_moved, log_past, log_with}
use Rattle.rule_store.specs.declared.entry_table.EntryTable.{EntryTable}
use Rattle.index_format.specs.declared.outline.entries.LogRest.{LogRest}
use Rattle.index_format.proofs.ElementLemmas.{bind-fault, bind-ok}
use Rattle.index_format.proofs.AlongLemmas.{along-stays_in, end-inside}

-- an entry whose box stays in the grid ends in it
pub entry-inside : (height : ℕ) (view : RulesView) (cell : Cell) (symbol : ℕ) → is_in_grid height cell ≡ true
    → stays_in height cell (entry_of view symbol).hull ≡ true
    → is_in_grid height (moved cell ((entry_of view symbol).dx, (entry_of view symbol).dy)) ≡ true
unfolding entry_of
entry-inside height view cell symbol inside stays =
    end-inside height cell (values_of view symbol) inside (along-stays_in height cell (values_of view symbol) stays)

module _ (height : ℕ) (log : LogRest) (entry : Entry) where
  -- an entry that leaves the grid
  pub log_past-out : stays_in height log.cell entry.hull ≡ false → log_past height log entry ≡ Err OffGrid
  unfolding log_past
  log_past-out out = rw out refl

  -- one that lasts too long
  pub log_past-long : stays_in height log.cell entry.hull ≡ true → log.rest < entry.duration → log_past height log entry ≡ Err Duration
  unfolding log_past
  log_past-long stays long = grind (arith, nat_tests, stays, long)

  -- one that fits
  pub log_past-fits : stays_in height log.cell entry.hull ≡ true → entry.duration ≤ log.rest
      → log_past height log entry ≡ Ok (log_moved log entry)
  unfolding log_past
  log_past-fits stays fits = grind (arith, nat_tests, stays, fits)

module _ (height : ℕ) (view : RulesView) (log : LogRest) (symbol : ℕ) where
  -- a symbol that is none of the rules
  pub log_after-unknown : symbols_in view ≤ symbol → log_after height view log symbol ≡ Err Symbol
  unfolding log_after
  log_after-unknown over = grind (arith, nat_tests, over)

  -- and one that is
  pub log_after-known : (entry : Entry) → entry ≡ entry_of view symbol → symbol < symbols_in view
      → log_after height view log symbol ≡ log_past height log entry
  unfolding log_after
  log_after-known entry is known = grind (arith, nat_tests, is, known)

-- what reading a symbol comes to, by where the symbol leads
abbrev pub entry_read : ℕ → List ℕ → ℕ → List Bool → Result LogRest Kind → Element InLog
entry_read period symbols symbol rest (Ok next) = Ok (log_with (symbols ++ symbol ∷ []) next, rest)
entry_read period symbols symbol rest (Err kind) = Err (flaw_at Log period (length symbols) kind)

module _ (frame : Frame) (view : RulesView) (period : ℕ) (log : LogRest) (symbols : List ℕ) (bits : List Bool) where
  -- there are too many symbols
  pub entry_in-full : limit_of Symbols ≤ length symbols
      → entry_in frame view period (log_with symbols log) bits ≡ Err (flaw_at Log period (length symbols) Total)
  unfolding entry_in
  entry_in-full many = grind (arith, nat_tests, many)

  module _ (few : length symbols < limit_of Symbols) where
    room : nat_le (limit_of Symbols) (length symbols) ≡ false
    room = grind (arith, nat_tests, few)

    -- a symbol that cannot be read
    pub entry_in-untold : (why : FormatFault) → IsFormatFault (wide_at (flaw_at Log period (length symbols)) (entry_width view) bits) why
        → IsFormatFault (entry_in frame view period (log_with symbols log) bits) why
    unfolding entry_in
    entry_in-untold fault.Memory read = tt
    entry_in-untold (fault.Flaw flaw) read = rw (room, read) refl

    -- a symbol
    pub entry_in-told : (symbol : ℕ) (rest : List Bool)
        → wide_at (flaw_at Log period (length symbols)) (entry_width view) bits ≡ Ok (symbol, rest)
        → entry_in frame view period (log_with symbols log) bits
        ≡ entry_read period symbols symbol rest (log_after frame.height view log symbol)
    unfolding entry_in log_after log_past
    entry_in-told symbol rest read = elim (cases_Bool (nat_le (symbols_in view) symbol)) [
      | inl over ↦ rw (room, read, over) refl
      | inr known ↦ elim (cases_Bool (stays_in frame.height log.cell (entry_of view symbol).hull)) [
        | inr out ↦ rw (room, read, known, out) refl
        | inl stays ↦ elim (cases_Bool (nat_lt log.rest (entry_of view symbol).duration)) [
          | inl long ↦ rw (room, read, known, stays, long) refl
          | inr fits ↦ rw (room, read, known, stays, fits) refl
        ]
      ]
    ]

module _ (frame : Frame) (view : RulesView) (period : ℕ) (log : InLog) (bits : List Bool) where
  -- a log that is filled
  pub log_in-filled : (most : ℕ) → log.rest ≡ 0 → log_in most frame view period log bits ≡ Ok (log, bits)
  unfolding log_in
  log_in-filled zero none = refl
  log_in-filled (suc more) none = grind (arith, nat_tests, none)

  -- no entries more
  pub log_in-none : log_in 0 frame view period log bits ≡ Ok (log, bits)
  unfolding log_in
  log_in-none = refl

  -- one entry more
  pub log_in-more : (more : ℕ) → 0 < log.rest → log_in (suc more) frame view period log bits
      ≡ entry_in frame view period log bits >>= (λ entry. log_in more frame view period entry.0 entry.1)
  unfolding log_in
  log_in-more more some = grind (arith, nat_tests, some)

-- entries were read, and what is left to read gives what the whole does
pub record AreEntriesRead (table : EntryTable) (frame : Frame) (period count i : ℕ) (symbols : List ℕ) (log : LogRest) (bits : List Bool)
    (first : List ℕ) (start : LogRest) (whole : List Bool) : Type 0 where
  pub inside : is_in_grid frame.height log.cell ≡ true
  pub read : (view : RulesView) → IsWholeTable view table → log_in (count - i) frame view period (log_with symbols log) bits
      ≡ log_in count frame view period (log_with first start) whole
  pub more : length first ≤ length symbols
  pub few : length symbols ≤ length first + i

module _ {table : EntryTable} {frame : Frame} {period count i : ℕ} {symbols : List ℕ} {log : LogRest} {bits : List Bool}
    {first : List ℕ} {start : LogRest} {whole : List Bool}
    (so_far : AreEntriesRead table frame period count i symbols log bits first start whole) where
  -- the log is filled
  pub entries-filled : log.rest ≡ 0 → (view : RulesView) → IsWholeTable view table
      → log_in count frame view period (log_with first start) whole ≡ Ok (log_with symbols log, bits)
  entries-filled none view known =
      sym (so_far.read view known) ∙ log_in-filled frame view period (log_with symbols log) bits (count - i) none

  -- so many entries were read
  pub entries-done : count ≤ i → (view : RulesView) → IsWholeTable view table
      → log_in count frame view period (log_with first start) whole ≡ Ok (log_with symbols log, bits)
  entries-done over view known =
      let none : count - i ≡ 0 = omega (arith, over) in
      sym (so_far.read view known) ∙ ap (λ n. log_in n frame view period (log_with symbols log) bits) none
      ∙ log_in-none frame view period (log_with symbols log) bits

  module _ (under : i < count) (some : 0 < log.rest) where
    step : (view : RulesView) → IsWholeTable view table → log_in count frame view period (log_with first start) whole
        ≡ entry_in frame view period (log_with symbols log) bits >>= (λ entry. log_in (count - (i + 1)) frame view period entry.0 entry.1)
    step view known =
        let next : count - i ≡ suc (count - (i + 1)) = omega (arith, under) in
        sym (so_far.read view known) ∙ ap (λ n. log_in n frame view period (log_with symbols log) bits) next
        ∙ log_in-more frame view period (log_with symbols log) bits (count - (i + 1)) some

    -- one entry could not be read
    pub entries-fault : (view : RulesView) → IsWholeTable view table → (why : FormatFault)
        → IsFormatFault (entry_in frame view period (log_with symbols log) bits) why
        → IsFormatFault (log_in count frame view period (log_with first start) whole) why
    entries-fault view known why read =
        bind-fault (entry_in frame view period (log_with symbols log) bits)
        (λ entry. log_in (count - (i + 1)) frame view period entry.0 entry.1)
        (step view known) why read

    -- one entry more was read
    pub entries-more : (next : List ℕ) (after : LogRest) (rest : List Bool) → is_in_grid frame.height after.cell ≡ true
        → length next ≡ length symbols + 1
        → ((view : RulesView) → IsWholeTable view table → entry_in frame view period (log_with symbols log) bits ≡ Ok (log_with next after, rest))
        → AreEntriesRead table frame period count (i + 1) next after rest first start whole
    entries-more next after rest inside one read = record {
      inside = inside;
      read = λ view known. sym (step view known ∙ bind-ok (entry_in frame view period (log_with symbols log) bits)
          (λ entry. log_in (count - (i + 1)) frame view period entry.0 entry.1) (log_with next after, rest) (read view known));
      more = omega (arith, one, so_far.more);
      few = omega (arith, one, so_far.few);
    }
