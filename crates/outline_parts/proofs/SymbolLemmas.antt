-- Where the symbols of a block's log stand among those of all logs, by period, then object.
use Rattle.std.proofs.Common.{All, ◌≡◌, ℕ, ◌+◌, ◌<◌, ◌==◌, List, [], ◌++◌, length, get_or, map}
use Rattle.std.proofs.Common.{take, drop, sum, refl, sym, ap, ◌∙◌, arith, subst}
use Rattle.std.specs.Prelude.{slice_index}
use Rattle.std.specs.List.{flat_map, range_with_len, slice_range, sum_by}
use Rattle.std.proofs.lemmas.List.{append_assoc, get_or-map, length-append, take-map, take_all}
use Rattle.std.proofs.lemmas.List.Concat.{length-flat_map}
use Rattle.std.proofs.lemmas.List.Elements.{All-filter}
use Rattle.std.proofs.lemmas.List.FromFn.{get_or-map-range_with_len, get_or-range_with_len, length-range_with_len}
use Rattle.std.proofs.lemmas.List.Sums.{sum-map}
use Rattle.list_laws.proofs.FlatLemmas.{All-flat_map, flat_map-flat_map, sum_by-map}
use Rattle.list_laws.proofs.KeyRangeLemmas.{by_key, sum_by-by_key}
use Rattle.list_laws.proofs.MapLemmas.{map_alike}
use Rattle.list_laws.proofs.PieceLemmas.{flat_map-parted, slice_range-middle}
use Rattle.list_laws.proofs.SumLemmas.{sum_by-agree}
use Rattle.track_types.specs.Frame.{periods_of}
use Rattle.track_types.specs.declared.parts.Parts.{Parts}
use Rattle.index_format.specs.IsOutline.{IsOutline}
use Rattle.index_format.specs.declared.outline.Outline.{Outline}
use Rattle.snapshots.specs.Parts.{no_period, numbers_in, period_at, start_in, symbols_of}
use Rattle.chart_parts.specs.PeriodWith.{period_of_blocks, period_with}
use Rattle.outline_parts.specs.PartsOfOutline.{headed, logged_in, parts_of_outline, symbols_in}
use Rattle.outline_parts.proofs.LoggedLemmas.{symbols-logged}
use Rattle.outline_parts.proofs.OutlineLemmas.{Logged, each-mine, heads-mine, heads_of, its, lengths-mine, lengths_of, mine, no_block, period_in}

-- the symbols of a block's log
abbrev pub log_of_block : Logged → List ℕ
log_of_block it = it.1

module _ (outline : Outline) (is : IsOutline outline) where
  abbrev count : ℕ
  count = periods_of outline.frame

  abbrev numbers : List ℕ
  numbers = range_with_len 0 count

  abbrev parts : Parts
  parts = parts_of_outline outline

  -- the parts of a period
  pub period_at-outline : (number : ℕ) → number < periods_of outline.frame →
      period_at (parts_of_outline outline).periods number
      ≡ period_with outline.frame (length outline.objects) (heads_of outline is number) (lengths_of outline is number)
  unfolding parts_of_outline period_of_blocks
  period_at-outline number below =
      get_or-map-range_with_len (period_of_blocks outline.frame (length outline.objects) (map (headed outline.frame) outline.blocks))
      0 count number number no_period below (omega arith)
      ∙ (rw (heads-mine outline is number, lengths-mine outline is number) refl)

  -- each log is as long as its block says
  whole-mine : (number : ℕ) → All (λ it. length it.1 ≡ it.0.length) (mine outline is number)
  whole-mine number k d within = (each-mine outline is number k d within).whole

  -- the lengths of the logs of a period
  pub lengths-are : (number : ℕ) → lengths_of outline is number ≡ map (λ it. length (log_of_block it)) (mine outline is number)
  lengths-are number =
      map_alike (λ (it : Logged). it.0.length) (λ it. length (log_of_block it)) (mine outline is number)
      (λ k d within. sym (whole-mine number k d within))

  abbrev symbols_at : ℕ → List ℕ
  symbols_at number = symbols_in (its outline is) number

  sum-lengths : (number : ℕ) → sum (lengths_of outline is number) ≡ length (symbols_at number)
  sum-lengths number =
      ap sum (lengths-are number) ∙ sum-map (λ it. length (log_of_block it)) (mine outline is number)
      ∙ sym (length-flat_map log_of_block (mine outline is number))

  per-period : ℕ → ℕ
  per-period number = symbols_of (period_of_blocks outline.frame (length outline.objects) (map (headed outline.frame) outline.blocks) number)

  symbols_of-period : (number : ℕ) → per-period number ≡ length (symbols_at number)
  unfolding per-period period_of_blocks
  symbols_of-period number = ap sum (lengths-mine outline is number) ∙ sum-lengths number

  -- the logs of a period begin after the symbols of those before
  pub start_in-outline : (number : ℕ) →
      start_in (parts_of_outline outline) number ≡ length (flat_map (symbols_in (its outline is)) (take number (numbers_in outline.frame)))
  unfolding start_in parts_of_outline per-period
  start_in-outline number =
      let period = period_of_blocks outline.frame (length outline.objects) (map (headed outline.frame) outline.blocks) in
      ap (sum_by symbols_of) (take-map period number numbers)
      ∙ sum_by-map symbols_of period (take number numbers)
      ∙ sum_by-agree per-period (λ k. length (symbols_at k)) symbols_of-period (take number numbers)
      ∙ sym (length-flat_map symbols_at (take number numbers))

  symbols-are : parts.symbols ≡ flat_map symbols_at numbers
  unfolding parts_of_outline
  symbols-are = refl

  -- the logs of all periods have all symbols
  pub total-outline : start_in (parts_of_outline outline) (periods_of outline.frame) ≡ length (parts_of_outline outline).symbols
  total-outline =
      start_in-outline count
      ∙ ap (λ ks. length (flat_map symbols_at ks)) (take_all count numbers (omega (arith, length-range_with_len 0 count)))
      ∙ ap length (sym symbols-are)

  below-count : All (λ it. period_in it < count) (its outline is)
  below-count k d within = (is.each k d within).period

  -- there are as many symbols as the outline has
  pub length-symbols : length (parts_of_outline outline).symbols ≡ length outline.symbols
  length-symbols =
      ap length symbols-are
      ∙ ap length (sym (flat_map-flat_map log_of_block (λ number. logged_in number (its outline is)) numbers))
      ∙ length-flat_map log_of_block (by_key period_in 0 count (its outline is))
      ∙ sum_by-by_key period_in (λ it. length (log_of_block it)) count (its outline is) below-count
      ∙ sym (length-flat_map log_of_block (its outline is))
      ∙ ap length (symbols-logged outline.blocks outline.symbols is.symbols)

  -- what holds of the symbols of each log holds of all
  pub All-symbols : (P : ℕ → Type 0) → All (λ it. All P (log_of_block it)) (its outline is) → All P (parts_of_outline outline).symbols
  All-symbols P each =
      subst (All P) (sym symbols-are)
      (All-flat_map P symbols_at numbers (λ j e inside.
      All-flat_map P log_of_block (mine outline is (get_or numbers j e))
      (All-filter (λ (it : Logged). it.0.period == get_or numbers j e) (λ it. All P (log_of_block it)) (its outline is) each)))

  module _ (number : ℕ) (below : number < periods_of outline.frame) (place : ℕ) (within : place < length (mine outline is number)) where
    abbrev logs : List Logged
    logs = mine outline is number

    abbrev it : Logged
    it = get_or logs place (no_block, [])

    abbrev lengths : List ℕ
    lengths = lengths_of outline is number

    abbrev from : ℕ
    from = start_in (parts_of_outline outline) number + sum (take place lengths)

    -- the symbols of a log stand after those of earlier periods and of earlier objects
    pub slice_range-outline :
        slice_range (parts_of_outline outline).symbols (start_in (parts_of_outline outline) number + sum (take place (lengths_of outline is number)))
        (start_in (parts_of_outline outline) number + sum (take place (lengths_of outline is number))
        + slice_index (lengths_of outline is number) place)
        ≡ (get_or (mine outline is number) place (no_block, [])).1
    slice_range-outline =
        let before : List ℕ = flat_map symbols_at (take number numbers) in
        let after : List ℕ = flat_map symbols_at (drop (number + 1) numbers) in
        let front : List ℕ = flat_map log_of_block (take place logs) in
        let back : List ℕ = flat_map log_of_block (drop (place + 1) logs) in
        let its_number : get_or numbers number 0 ≡ number = get_or-range_with_len 0 count number 0 below ∙ omega arith in
        let parted : parts.symbols ≡ (before ++ front) ++ (it.1 ++ (back ++ after)) =
        symbols-are
        ∙ flat_map-parted symbols_at numbers number 0 (omega (arith, length-range_with_len 0 count))
        ∙ ap (λ k. before ++ (symbols_at k ++ after)) its_number
        ∙ ap (λ xs. before ++ (xs ++ after)) (flat_map-parted log_of_block logs place (no_block, []) within)
        ∙ simp append_assoc in
        let one : slice_index lengths place ≡ length it.1 =
        ap (λ all. slice_index all place) (lengths-are number)
        ∙ get_or-map (λ one. length (log_of_block one)) logs place (no_block, []) 0 within in
        let so_far : sum (take place lengths) ≡ length front =
        ap (λ all. sum (take place all)) (lengths-are number)
        ∙ ap sum (take-map (λ one. length (log_of_block one)) place logs)
        ∙ sum-map (λ one. length (log_of_block one)) (take place logs)
        ∙ sym (length-flat_map log_of_block (take place logs)) in
        let where_from : from ≡ length (before ++ front) =
        omega (arith, start_in-outline number, so_far, length-append before front) in
        ap (λ xs. slice_range xs from (from + slice_index lengths place)) parted
        ∙ ap (λ n. slice_range ((before ++ front) ++ (it.1 ++ (back ++ after))) from (from + n)) one
        ∙ ap (λ n. slice_range ((before ++ front) ++ (it.1 ++ (back ++ after))) n (n + length it.1)) where_from
        ∙ slice_range-middle (before ++ front) it.1 (back ++ after)
