-- The blocks that valid parts tell, with their logs: by object, then period, and by period.
use Rattle.std.proofs.Common.{All, ◌≡◌, ℕ, ◌+◌, ◌-◌, ◌<◌, ◌≤◌, List, [], ◌∷◌, length, map, None, Some, Option}
use Rattle.std.proofs.Common.{refl, sym, ap, ◌∙◌, arith, subst, take, sum}
use Rattle.std.specs.Prelude.{slice_index}
use Rattle.std.specs.List.{filter_map, flat_map, range_with_len, slice_range, sum_by}
use Rattle.std.specs.List.Sorted.{IsStrictlySortedBy}
use Rattle.std.specs.Option.{option_map}
use Rattle.std.proofs.lemmas.List.{take-take, take_all}
use Rattle.std.proofs.lemmas.List.Concat.{length-flat_map}
use Rattle.std.proofs.lemmas.List.Folds.{flat_map-map}
use Rattle.std.proofs.lemmas.List.Sums.{sum_by-take-le, sum_by_more}
use Rattle.std.proofs.lemmas.Option.{none-some, same_Some}
use Rattle.list_laws.proofs.FlatLemmas.{flat_map-flat_map}
use Rattle.list_laws.proofs.KeyRangeLemmas.{by_key, sum_by-by_key}
use Rattle.list_laws.proofs.KeyedLemmas.{flat_map_alike, member_of_range}
use Rattle.packed_bits.specs.Bits.{ones_of}
use Rattle.object_perm.specs.Permutation.{inverse_of}
use Rattle.track_types.specs.Frame.{periods_of}
use Rattle.track_types.specs.declared.parts.Parts.{Parts}
use Rattle.snapshots.specs.Parts.{log_in, no_period, numbers_in, period_at, rules_in, snapshot_in, start_in, symbols_of}
use Rattle.snapshots.specs.Sound.{IsBlock}
use Rattle.snapshots.specs.SoundParts.{IsValid}
use Rattle.snapshots.specs.View.{all_blocks, block_of, block_with}
use Rattle.snapshots.specs.declared.anchored.Anchored.{Anchored}
use Rattle.snapshots.proofs.BlockFactsLemmas.{IsBlock-from_block_of}
use Rattle.snapshots.proofs.ByObjectLemmas.{index-from_block_of}
use Rattle.snapshots.proofs.LogsLemmas.{length-block_log}
use Rattle.snapshots.proofs.ReachLemmas.{IsSnapshot-valid}
use Rattle.outline_parts.specs.OutlineOf.{block_in, logged_block, logged_blocks}
use Rattle.outline_parts.specs.PartsOfOutline.{logged_in, symbols_in}
use Rattle.outline_parts.proofs.OutlineLemmas.{Logged, object_in, period_in}
use Rattle.outline_parts.proofs.PairOrderLemmas.{All-made_by_keys, made-of_inner, made-sorted, pair_order}
use Rattle.outline_parts.proofs.PieceLemmas.{filter_map-map, pieces}
use Rattle.outline_parts.proofs.RankLemmas.{blocks-by_rank}

-- what is made of a value that may be there
pub made-from : {X Y : Type 0} (f : X → Y) (one : Option X) (y : Y) → option_map f one ≡ Some y → (x : X) × (one ≡ Some x) × (f x ≡ y)
made-from f None y is = absurd (none-some y is)
made-from f (Some x) y is = (x, refl, same_Some (f x) y is)

module _ (parts : Parts) (valid : IsValid parts) where
  abbrev count : ℕ
  count = periods_of parts.frame

  abbrev objects : ℕ
  objects = length parts.objects

  -- a block is the same
  pub block_in-2 : (number i : ℕ) →
      block_in parts number i ≡ option_map (logged_block parts number) (block_of (snapshot_in parts number) i)
  unfolding block_in start_in
  block_in-2 number i = refl

  -- what is told of an object in a period is its block
  pub told-from : (number i : ℕ) (it : Logged) → block_in parts number i ≡ Some it →
      (block : Anchored) × (block_of (snapshot_in parts number) i ≡ Some block) × (logged_block parts number block ≡ it)
  told-from number i it is =
      made-from (logged_block parts number) (block_of (snapshot_in parts number) i) it (sym (block_in-2 number i) ∙ is)

  outer-is : (number i : ℕ) (it : Logged) → block_in parts number i ≡ Some it → object_in it ≡ i
  outer-is number i it is =
      let from = told-from number i it is in
      sym (ap object_in from.2) ∙ index-from_block_of (snapshot_in parts number) i from.0 from.1

  inner-is : (number i : ℕ) (it : Logged) → block_in parts number i ≡ Some it → period_in it ≡ number
  inner-is number i it is = sym (ap period_in (told-from number i it is).2)

  -- the blocks are in order
  pub told-sorted : IsStrictlySortedBy (pair_order object_in period_in) (logged_blocks parts)
  unfolding logged_blocks
  told-sorted = made-sorted object_in period_in objects count (block_in parts) outer-is inner-is

  -- what holds of each block of a period holds of all that is told
  pub All-told : (P : Logged → Type 0) → ((number i : ℕ) (block : Anchored) → number < periods_of parts.frame →
      i < length parts.objects → block_of (snapshot_in parts number) i ≡ Some block → IsBlock (snapshot_in parts number) block →
      block.index ≡ i → P (logged_block parts number block)) → All P (logged_blocks parts)
  unfolding logged_blocks
  All-told P each =
      All-made_by_keys object_in period_in objects count (block_in parts) outer-is inner-is P (λ number i it below within is.
      let from = told-from number i it is in
      subst P from.2 (each number i from.0 below within from.1
      (IsBlock-from_block_of (snapshot_in parts number) (IsSnapshot-valid parts valid number below) i from.0 from.1)
      (index-from_block_of (snapshot_in parts number) i from.0 from.1)))

  -- those of a period, by object
  pub told-in_period : (number : ℕ) → number < periods_of parts.frame →
      logged_in number (logged_blocks parts) ≡ map (logged_block parts number) (all_blocks (snapshot_in parts number))
  unfolding logged_blocks all_blocks
  told-in_period number below =
      made-of_inner object_in period_in objects count (block_in parts) outer-is inner-is number below
      ∙ same-made (range_with_len 0 objects)
      ∙ filter_map-map (logged_block parts number) (block_of (snapshot_in parts number)) (range_with_len 0 objects)
    where
      same-made : (is : List ℕ) → filter_map (block_in parts number) is
          ≡ filter_map (λ i. option_map (logged_block parts number) (block_of (snapshot_in parts number) i)) is
      same-made [] = refl
      same-made (i ∷ is) = rw (block_in-2 number i, same-made is) refl

  -- where the logs of periods begin
  start-climbs : (number : ℕ) → start_in parts number ≤ start_in parts (number + 1)
  unfolding start_in
  start-climbs number =
      let shorter : take number (take (number + 1) parts.periods) ≡ take number parts.periods =
      take-take number (number + 1) parts.periods (omega arith) in
      let part = sum_by-take-le symbols_of (take (number + 1) parts.periods) number in
      rw shorter at part

  start-more : (number : ℕ) → number < count →
      start_in parts (number + 1) ≡ start_in parts number + sum (period_at parts.periods number).lengths
  unfolding start_in
  start-more number below = sum_by_more symbols_of parts.periods number no_period (omega (arith, valid.shaped.periods))

  total : start_in parts count ≡ length parts.symbols
  unfolding start_in
  total = valid.sound.total

  start-none : start_in parts 0 ≡ 0
  unfolding start_in
  start-none = refl

  start-within : (number : ℕ) → number < count → start_in parts (number + 1) ≤ length parts.symbols
  unfolding start_in
  start-within number below =
      let all = take_all count parts.periods (omega (arith, valid.shaped.periods)) in
      let whole : sum_by symbols_of parts.periods ≡ length parts.symbols = sym (ap (sum_by symbols_of) all) ∙ total in
      omega (arith, sum_by-take-le symbols_of parts.periods (number + 1), whole)

  -- the symbols of a block's log are there
  pub end-told : (number : ℕ) (block : Anchored) → number < periods_of parts.frame → IsBlock (snapshot_in parts number) block →
      block.from + block.len ≤ length parts.symbols
  end-told number block below is =
      omega (arith, is.to, start-more number below, start-within number below)

  -- each log is as long as its block says
  pub whole-block : (number : ℕ) (block : Anchored) → number < periods_of parts.frame → IsBlock (snapshot_in parts number) block →
      length (log_in parts block) ≡ block.len
  whole-block number block below is = length-block_log (rules_in parts) block (end-told number block below is)

  pub whole-told : All (λ it. length it.1 ≡ it.0.length) (logged_blocks parts)
  whole-told =
      All-told (λ it. length it.1 ≡ it.0.length)
      (λ number i block below within has is own. whole-block number block below is)

  module _ (number : ℕ) (below : number < count) where
    abbrev lengths : List ℕ
    lengths = (period_at parts.periods number).lengths

    abbrev n : ℕ
    n = ones_of (period_at parts.periods number).present

    log-from : ℕ → ℕ
    log-from r = start_in parts number + sum (take r lengths)

    log-climbs : (r : ℕ) → log-from r ≤ log-from (r + 1)
    unfolding log-from
    log-climbs r =
        let shorter : take r (take (r + 1) lengths) ≡ take r lengths = take-take r (r + 1) lengths (omega arith) in
        let part = sum_by-take-le (λ x. x) (take (r + 1) lengths) r in
        let less : sum (take r lengths) ≤ sum (take (r + 1) lengths) = rw shorter at part in
        omega (arith, less)

    log-of : (i r : ℕ) → log_in parts (block_with (snapshot_in parts number) i r (inverse_of (snapshot_in parts number).parts.perm r))
        ≡ slice_range parts.symbols (log-from r) (log-from r + slice_index lengths r)
    unfolding start_in log-from
    log-of i r = refl

    -- the symbols of a period's logs stand together
    pub symbols-in_period : symbols_in (logged_blocks parts) number
        ≡ slice_range parts.symbols (start_in parts number) (start_in parts (number + 1))
    unfolding log-from
    symbols-in_period =
        let is = IsSnapshot-valid parts valid number below in
        let many : length lengths ≡ n = is.shaped.lengths in
        let own : ℕ → List ℕ = λ r. slice_range parts.symbols (log-from r) (log-from r + slice_index lengths r) in
        let logs : map (λ block. log_in parts block) (all_blocks (snapshot_in parts number)) ≡ map own (range_with_len 0 n) =
        blocks-by_rank (snapshot_in parts number) is (λ block. log_in parts block) own (λ i r. log-of i r) in
        let zero_ : log-from 0 ≡ start_in parts number = omega arith in
        let all : take n lengths ≡ lengths = take_all n lengths (omega (arith, many)) in
        let end : log-from n ≡ start_in parts (number + 1) =
        ap (λ xs. start_in parts number + sum xs) all ∙ sym (start-more number below) in
        ap (flat_map (λ (it : Logged). it.1)) (told-in_period number below)
        ∙ flat_map-map (λ (it : Logged). it.1) (logged_block parts number) (all_blocks (snapshot_in parts number))
        ∙ sym (flat_map-map (λ (log : List ℕ). log) (λ block. log_in parts block) (all_blocks (snapshot_in parts number)))
        ∙ ap (flat_map (λ log. log)) logs
        ∙ flat_map-map (λ (log : List ℕ). log) own (range_with_len 0 n)
        ∙ flat_map_alike own (λ r. slice_range parts.symbols (log-from r) (log-from (r + 1))) (range_with_len 0 n)
        (λ r inside.
        let low = (member_of_range 0 n r inside).1 in
        let more = sum_by_more (λ x. x) lengths r 0 (omega (arith, many)) in
        let next : log-from r + slice_index lengths r ≡ log-from (r + 1) = omega (arith, more) in
        ap (slice_range parts.symbols (log-from r)) next)
        ∙ pieces parts.symbols log-from log-climbs n
        ∙ ap (λ a. slice_range parts.symbols a (log-from n)) zero_
        ∙ ap (slice_range parts.symbols (start_in parts number)) end

  -- and so those of all
  pub symbols-told : flat_map (symbols_in (logged_blocks parts)) (numbers_in parts.frame) ≡ parts.symbols
  symbols-told =
      let none : length parts.symbols - 0 ≡ length parts.symbols = omega arith in
      flat_map_alike (symbols_in (logged_blocks parts)) (λ number. slice_range parts.symbols (start_in parts number) (start_in parts (number + 1)))
      (range_with_len 0 count)
      (λ number inside. symbols-in_period number (omega (arith, (member_of_range 0 count number inside).1)))
      ∙ pieces parts.symbols (start_in parts) start-climbs count
      ∙ ap (λ a. slice_range parts.symbols a (start_in parts count)) start-none
      ∙ ap (slice_range parts.symbols 0) total
      ∙ ap (λ n. take n parts.symbols) none
      ∙ take_all (length parts.symbols) parts.symbols (omega arith)

  -- there are as many symbols as in all logs
  pub length-told : length (flat_map (λ it. it.1) (logged_blocks parts)) ≡ length parts.symbols
  length-told =
      length-flat_map (λ (it : Logged). it.1) (logged_blocks parts)
      ∙ sym (sum_by-by_key period_in (λ it. length it.1) count (logged_blocks parts)
      (All-told (λ it. period_in it < count) (λ number i block below within has is own. below)))
      ∙ sym (length-flat_map (λ (it : Logged). it.1) (by_key period_in 0 count (logged_blocks parts)))
      ∙ ap length (flat_map-flat_map (λ (it : Logged). it.1) (λ number. logged_in number (logged_blocks parts)) (range_with_len 0 count))
      ∙ ap length symbols-told
