-- The snapshots of an index, judged one after the other by period.
use Rattle.std.proofs.Common.{◌≡◌, ℕ, ◌+◌, ◌<◌, ◌≤◌, List, [], ◌∷◌, ◌++◌, length, get_or, map, take, None, Option, inl, inr, ap, sym, ◌∙◌, arith, subst}
use Rattle.std.specs.Prelude.{sum}
use Rattle.std.specs.List.{range_with_len, sum_by}
use Rattle.std.proofs.lemmas.Bool.{cases_lt}
use Rattle.std.specs.Global.{Box}
use Rattle.std.proofs.Math.Nat.{div-le_self}
use Rattle.std.proofs.Math.Seq.{get_or-append_seam}
use Rattle.std.proofs.lemmas.List.{get_or_append_left, length-append, map-id, take_all}
use Rattle.std.proofs.lemmas.List.Sums.{sum_by_more, sum_by_more_le}
use Rattle.std.proofs.lemmas.List.FromFn.{length-map-range_with_len, map-range_with_len_more}
use Rattle.std.proofs.lemmas.List.FromFn.{sum_by-map-range_with_len_more}
use Rattle.list_laws.proofs.FirstLemmas.{first_of_range-all, first_of_range-at, first_of_range-none}
use Rattle.list_laws.proofs.SumLemmas.{sum_by-range_next}
use Rattle.track_types.specs.Frame.{periods_of}
use Rattle.track_types.specs.declared.limit.TheConstants.{MAX_SPAN}
use Rattle.track_types.specs.declared.parts.Parts.{Parts}
use Rattle.rule_store.specs.View.{RulesView}
use Rattle.snapshots.specs.Flaws.{IsSnapFaultFor}
use Rattle.snapshots.specs.IndexCost.{blocks_reads, open_cost}
use Rattle.snapshots.specs.JoinFlaws.{blocks_flaw, join_flaw, logs_flaw}
use Rattle.snapshots.specs.Parts.{no_period, rules_in, snapshot_in, start_in, symbols_of}
use Rattle.snapshots.specs.Sound.{IsSnapshot}
use Rattle.snapshots.specs.Speed.{blocks_speed, speed_of}
use Rattle.snapshots.specs.Stores.{AreOf, AreTracks}
use Rattle.snapshots.specs.Tracks.{blocks_by_leaf}
use Rattle.snapshots.specs.TrackTree.{IsKept, IsOfPeriod}
use Rattle.snapshots.specs.declared.track_tree.TrackTree.{TrackTree}
use Rattle.snapshots.proofs.GetterLemmas.{snapshot-at}
use Rattle.snapshots.specs.View.{SnapshotView}
use Rattle.snapshots.specs.declared.fault.SnapFault.{SnapFault}
use Rattle.snapshots.specs.declared.judged.Judged.{Judged}
use Rattle.snapshots.specs.declared.fault.SnapFault.TheVariants as fault

-- what is known once the snapshots of some periods were judged: they are sound, and none of their blocks has a flaw
pub record IsJoining (parts : Parts) (count before steps : ℕ) : Type 0 where
  pub snapshots : (number : ℕ) → number < count → IsSnapshot (snapshot_in parts number)
  pub none : (number : ℕ) → number < count → join_flaw parts number ≡ None
  pub reads : steps ≤ before + (start_in parts count
      + sum_by (λ number. blocks_reads (snapshot_in parts number)) (range_with_len 0 count))

-- and these are their speeds, and what is kept of their tracks
pub record IsJoined (parts : Parts) (count before steps : ℕ) (speeds : List ℕ) (tracks : List (Option (Box TrackTree)))
    : Type 0 where
  pub joining : IsJoining parts count before steps
  pub speeds_are : speeds ≡ map (speed_of parts) (range_with_len 0 count)
  pub tracks_are : AreTracks parts count tracks

module _ (parts : Parts) (rules : RulesView) (snaps : List SnapshotView) (of : AreOf parts rules snaps) where
  -- the snapshot that is read
  pub snapshot-read : (number : ℕ) (d : SnapshotView) → number < length snaps
      → get_or snaps number d ≡ snapshot_in parts number
  snapshot-read number d within =
      let long = ap length of.snaps_are ∙ length-map-range_with_len (snapshot_in parts) 0 (periods_of parts.frame) in
      snapshot-at parts snaps number d of.snaps_are (omega (arith, long))

  -- there are as many as periods
  pub length-snaps : length snaps ≡ periods_of parts.frame
  length-snaps = ap length of.snaps_are ∙ length-map-range_with_len (snapshot_in parts) 0 (periods_of parts.frame)

  -- and these are few
  pub few-snaps : length snaps ≤ MAX_SPAN + 1
  few-snaps =
      let short : parts.frame.span ≤ MAX_SPAN = of.shaped.header.short in
      omega (arith, length-snaps, short, div-le_self parts.frame.span parts.frame.period)

  -- the logs of a period stand after those of the earlier ones
  pub start_in-more : (number : ℕ) → number < periods_of parts.frame
      → start_in parts (number + 1) ≡ start_in parts number + sum (snapshot_in parts number).parts.lengths
  unfolding start_in
  start_in-more number within =
      sum_by_more symbols_of parts.periods number no_period (omega (arith, of.shaped.periods))

  -- and at the end of the symbols at most
  pub start_in-within : (number : ℕ) → number < periods_of parts.frame
      → start_in parts number + sum (snapshot_in parts number).parts.lengths ≤ length parts.symbols
  unfolding start_in
  start_in-within number within =
      let all = sum_by_more_le symbols_of parts.periods number no_period (omega (arith, of.shaped.periods)) in
      let total : sum_by symbols_of (take (periods_of parts.frame) parts.periods) ≡ length parts.symbols = of.total in
      let whole : take (periods_of parts.frame) parts.periods ≡ parts.periods =
      take_all (periods_of parts.frame) parts.periods (omega (arith, of.shaped.periods)) in
      omega (arith, all, total, ap (sum_by symbols_of) whole)

  -- one period more
  pub joining-more : (number before steps after : ℕ) → IsJoining parts number before steps
      → number < periods_of parts.frame → IsSnapshot (snapshot_in parts number) → join_flaw parts number ≡ None
      → after ≤ steps + (blocks_reads (snapshot_in parts number) + sum (snapshot_in parts number).parts.lengths)
      → IsJoining parts (number + 1) before after
  joining-more number before steps after is within snapshot none reads = record {
    snapshots = λ k below. elim (cases_lt k number) [
      | inl less ↦ is.snapshots k less
      | inr most ↦
          let same : number ≡ k = omega arith in subst (λ n. IsSnapshot (snapshot_in parts n)) same snapshot
    ];
    none = λ k below. elim (cases_lt k number) [
      | inl less ↦ is.none k less
      | inr most ↦ let same : k ≡ number = omega arith in ap (join_flaw parts) same ∙ none
    ];
    reads =
        let more = sum_by-range-more (λ n. blocks_reads (snapshot_in parts n)) number in
        omega (arith, is.reads, reads, start_in-more number within, more);
  }
    where
      sum_by-range-more : (f : ℕ → ℕ) (n : ℕ)
          → sum_by f (range_with_len 0 (n + 1)) ≡ sum_by f (range_with_len 0 n) + f n
      sum_by-range-more f n =
          ap (sum_by f) (sym (map-id (range_with_len 0 (n + 1))))
          ∙ sum_by-map-range_with_len_more f (λ k. k) 0 n n (omega arith)
          ∙ ap (λ xs. sum_by f xs + f n) (map-id (range_with_len 0 n))

  -- the flaw of a period, after periods that have none, is the first
  pub logs_flaw-at : (number before steps : ℕ) (found : SnapFault) → IsJoining parts number before steps
      → number < periods_of parts.frame → IsSnapFaultFor (join_flaw parts number) found → IsSnapFaultFor (logs_flaw parts) found
  unfolding logs_flaw
  logs_flaw-at number before steps fault.Memory is within fault = fault
  logs_flaw-at number before steps (fault.Flaw flaw) is within fault =
      first_of_range-at (join_flaw parts) 0 (periods_of parts.frame) number flaw (omega arith) (omega arith)
      (λ j low below. is.none j below) fault

  -- all periods were judged
  module _ (before steps : ℕ) (is : IsJoining parts (periods_of parts.frame) before steps) where
    pub logs_flaw-none : logs_flaw parts ≡ None
    unfolding logs_flaw
    logs_flaw-none =
        first_of_range-none (join_flaw parts) 0 (periods_of parts.frame) (λ j low high. is.none j (omega arith))

    pub reads-within : steps ≤ before + open_cost parts
    unfolding open_cost
    reads-within = omega (arith, is.reads, of.total)

-- the reads so far are within the cost of opening
reads-so_far : (parts : Parts) (rules : RulesView) (snaps : List SnapshotView) → AreOf parts rules snaps
    → (number before steps after : ℕ) → IsJoining parts number before steps → number < periods_of parts.frame
    → after ≤ steps + (blocks_reads (snapshot_in parts number) + sum (snapshot_in parts number).parts.lengths)
    → after ≤ before + open_cost parts
unfolding open_cost
reads-so_far parts rules snaps of number before steps after is within reads =
    let here = start_in-within parts rules snaps of number within in
    let some = sum_by-range_next (λ n. blocks_reads (snapshot_in parts n)) 0 number (periods_of parts.frame)
    (omega arith) in
    let same : 0 + number ≡ number = omega arith in
    let one = ap (λ n. blocks_reads (snapshot_in parts n)) same in
    omega (arith, is.reads, reads, here, some, one)

-- a turn: the snapshot of a period is read of the list
pub record IsTurn (parts : Parts) (rules : RulesView) (snaps : List SnapshotView) (number : ℕ) (item : SnapshotView)
    : Type 0 where
  pub of : AreOf parts rules snaps
  pub within : number < periods_of parts.frame
  pub item_is : item ≡ snapshot_in parts number

pub IsTurn-read : (parts : Parts) (rules : RulesView) (snaps items : List SnapshotView) (number : ℕ)
    (item : SnapshotView) → AreOf parts rules snaps → items ≡ snaps → number < length items
    → item ≡ get_or items number item → IsTurn parts rules snaps number item
IsTurn-read parts rules snaps items number item of same here read = record {
  of = of;
  within = omega (arith, here, ap length same, length-snaps parts rules snaps of);
  item_is = read ∙ ap (λ (xs : List SnapshotView). get_or xs number item) same
      ∙ snapshot-read parts rules snaps of number item (omega (arith, ap length same));
}

module _ (parts : Parts) (rules : RulesView) (snaps : List SnapshotView) (number : ℕ) (item : SnapshotView)
    (turn : IsTurn parts rules snaps number item) where
  -- its logs end within the symbols
  pub turn-symbols : item.start + sum item.parts.lengths ≤ length parts.symbols
  turn-symbols =
      subst (λ (view : SnapshotView). view.start + sum view.parts.lengths ≤ length parts.symbols) (sym turn.item_is)
      (start_in-within parts rules snaps turn.of number turn.within)

  -- the flaw of its blocks is that of the period
  turn-flaw_is : blocks_flaw rules item ≡ join_flaw parts number
  turn-flaw_is =
      ap (λ r. blocks_flaw r item) turn.of.rules_are ∙ ap (blocks_flaw (rules_in parts)) turn.item_is

  -- so it has none where no log has one
  pub turn-flawless : logs_flaw parts ≡ None → blocks_flaw rules item ≡ None
  unfolding logs_flaw
  turn-flawless none =
      turn-flaw_is ∙ first_of_range-all (join_flaw parts) 0 (periods_of parts.frame) none number (omega arith)
      (omega (arith, turn.within))

  -- and the speed of its blocks is one more of the periods' speeds
  turn-speeds : (speeds : List ℕ) (speed : ℕ) → speeds ≡ map (speed_of parts) (range_with_len 0 number)
      → speed ≡ blocks_speed rules item
      → speeds ++ speed ∷ [] ≡ map (speed_of parts) (range_with_len 0 (number + 1))
  turn-speeds speeds speed so_far found =
      let here : speed ≡ speed_of parts number =
      found ∙ ap (λ r. blocks_speed r item) turn.of.rules_are ∙ ap (blocks_speed (rules_in parts)) turn.item_is in
      ap (λ xs. xs ++ speed ∷ []) so_far ∙ ap (λ n. map (speed_of parts) (range_with_len 0 number) ++ n ∷ []) here
      ∙ sym (map-range_with_len_more (speed_of parts) 0 number number (omega arith))

  -- and what is kept of its tracks is one more
  turn-tracks : (tracks : List (Option (Box TrackTree))) (kept : Option (Box TrackTree))
      → AreTracks parts number tracks
      → IsKept item.frame rules (blocks_by_leaf item) kept → IsOfPeriod number kept
      → AreTracks parts (number + 1) (tracks ++ kept ∷ [])
  turn-tracks tracks kept are its numbered =
      let here : IsKept parts.frame (rules_in parts) (blocks_by_leaf (snapshot_in parts number)) kept =
      subst (λ (view : SnapshotView). IsKept view.frame (rules_in parts) (blocks_by_leaf view) kept) turn.item_is
      (subst (λ r. IsKept item.frame r (blocks_by_leaf item) kept) turn.of.rules_are its) in
      record {
        long = omega (arith, length-append tracks (kept ∷ []), are.long);
        kept = each (λ n. IsKept parts.frame (rules_in parts) (blocks_by_leaf (snapshot_in parts n))) are.kept here;
        numbers = each IsOfPeriod are.numbers numbered;
      }
    where
      each : (P : ℕ → Option (Box TrackTree) → Type 0) → ((k : ℕ) → k < number → P k (get_or tracks k None))
          → P number kept → (k : ℕ) → k < number + 1 → P k (get_or (tracks ++ kept ∷ []) k None)
      each P so_far last k below = elim (cases_lt k number) [
        | inl less ↦ subst (P k) (sym (get_or_append_left tracks (kept ∷ []) None k (omega (arith, are.long)))) (so_far k less)
        | inr most ↦
            let same : number ≡ k = omega arith in
            let stands : get_or (tracks ++ kept ∷ []) k None ≡ kept =
            ap (λ n. get_or (tracks ++ kept ∷ []) n None) (sym same ∙ sym are.long) ∙ get_or-append_seam tracks kept [] None in
            subst (P k) (sym stands) (subst (λ n. P n kept) same last)
      ]

  module _ (before steps : ℕ) (is : IsJoining parts number before steps) where
    -- its flaw is the first
    pub turn-flaw : (found : SnapFault) → IsSnapFaultFor (blocks_flaw rules item) found
        → IsSnapFaultFor (logs_flaw parts) found
    turn-flaw found fault =
        logs_flaw-at parts rules snaps turn.of number before steps found is turn.within
        (subst (λ first. IsSnapFaultFor first found) turn-flaw_is fault)

    module _ (after : ℕ) (reads : after ≤ steps + (blocks_reads item + sum item.parts.lengths)) where
      reads_in : after ≤ steps + (blocks_reads (snapshot_in parts number)
          + sum (snapshot_in parts number).parts.lengths)
      reads_in =
          subst (λ view. after ≤ steps + (blocks_reads view + sum view.parts.lengths)) turn.item_is reads

      -- the reads so far are within the cost of opening
      pub turn-reads : after ≤ before + open_cost parts
      turn-reads = reads-so_far parts rules snaps turn.of number before steps after is turn.within reads_in

      -- one period more
      turn-more : IsSnapshot item → blocks_flaw rules item ≡ None → IsJoining parts (number + 1) before after
      turn-more sound none =
          joining-more parts rules snaps turn.of number before steps after is turn.within
          (subst IsSnapshot turn.item_is sound) (sym turn-flaw_is ∙ none) reads_in

  -- with what was found of it
  pub turn-joined : (before steps after : ℕ) (speeds next : List ℕ) (tracks nexts : List (Option (Box TrackTree)))
      (found : Judged) → IsJoined parts number before steps speeds tracks
      → after ≤ steps + (blocks_reads item + sum item.parts.lengths) → IsSnapshot item → blocks_flaw rules item ≡ None
      → found.speed ≡ blocks_speed rules item → IsKept item.frame rules (blocks_by_leaf item) found.tracks
      → IsOfPeriod number found.tracks → next ≡ speeds ++ found.speed ∷ [] → nexts ≡ tracks ++ found.tracks ∷ []
      → IsJoined parts (number + 1) before after next nexts
  turn-joined before steps after speeds next tracks nexts found is reads sound none fast kept numbered more mores = record {
    joining = turn-more before steps is.joining after reads sound none;
    speeds_are = more ∙ turn-speeds speeds found.speed is.speeds_are fast;
    tracks_are = subst (AreTracks parts (number + 1)) (sym mores) (turn-tracks tracks found.tracks is.tracks_are kept numbered);
  }
