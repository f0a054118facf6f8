-- How near the objects of a period's blocks are, and how near the rows of an instant.
use Rattle.std.proofs.Common.{◌≡◌, ℕ, ◌+◌, ◌^◌, ◌<◌, ◌≤◌, ℤ, Bool, true, false, List, [], ◌∷◌, ◌++◌, length, map, filter, find, All}
use Rattle.std.proofs.Common.{take, Ordering, Option, None, Some, refl, sym, subst, ◌∙◌, ap, arith, inl, inr, length-take}
use Rattle.std.specs.Prelude.{◌-◌, drop, IfSome, slice_get, slice_index}
use Rattle.std.specs.List.{AllByRecursion, Contains, filter_map, list_any, range_with_len}
use Rattle.std.specs.Option.{option_map, option_to_list}
use Rattle.std.specs.Ordering.{eq_by_cmp, is_eq, nat_cmp, ordering_then}
use Rattle.std.specs.declared.cmp.Ordering.TheVariants.{Less, Equal, Greater}
use Rattle.std.proofs.lemmas.Bool.{cases_order}
use Rattle.std.proofs.lemmas.Bool.Decides.{nat_tests}
use Rattle.std.proofs.lemmas.List.{take-append-drop}
use Rattle.std.proofs.lemmas.List.Elements.{All-from_recursion}
use Rattle.std.proofs.lemmas.List.Folds.{list_any_none}
use Rattle.std.proofs.lemmas.Option.{none-some, same_Some}
use Rattle.list_laws.proofs.FlatLemmas.{flat_map_agree}
use Rattle.list_laws.proofs.FrontLemmas.{list_any-front}
use Rattle.list_laws.proofs.IncreasingLemmas.{increasing-below}
use Rattle.list_laws.proofs.MapLemmas.{map-flat_map}
use Rattle.list_laws.proofs.MemberLemmas.{find-passes, member_of_find}
use Rattle.list_laws.proofs.OptionLemmas.{made_of, flat_map-made}
use Rattle.list_laws.proofs.OrderedLemmas.{find-filter}
use Rattle.track_types.specs.ByFilter.{near_of, near_order, nears_at}
use Rattle.track_types.specs.Frame.{periods_of}
use Rattle.track_types.specs.declared.cell.Cell.{Cell}
use Rattle.track_types.specs.declared.near.Near.{Near}
use Rattle.track_types.specs.declared.parts.Parts.{Parts}
use Rattle.track_types.specs.declared.row.Row.{Row}
use Rattle.track_types.specs.declared.stop.Stop.{Stop}
use Rattle.log_cursor.specs.Seek.{cell_among, is_stop_at}
use Rattle.snapshots.specs.Parts.{anchored_at, chart_in, end_in, first_in, log_in, period_in, row_of, rules_in, snapshot_in, stops_in, stops_in_block, stops_of}
use Rattle.snapshots.specs.Sound.{IsBlock}
use Rattle.snapshots.specs.SoundParts.{IsValid}
use Rattle.snapshots.specs.View.{SnapshotView, all_blocks, block_of}
use Rattle.snapshots.specs.declared.anchored.Anchored.{Anchored}
use Rattle.snapshots.proofs.ByObjectLemmas.{index-from_block_of}
use Rattle.object_track.proofs.BlockLemmas.{block-known}
use Rattle.object_track.proofs.InstantLemmas.{rows_at-instant, stops_at-few}
use Rattle.std.proofs.lemmas.List.Elements.{All-contains}
use Rattle.track_types.specs.Near.{IsCellAsked, IsCellWithin}
use Rattle.rule_store.specs.View.{RulesView}
use Rattle.rule_store.specs.Expansion.{depth_in}
use Rattle.rule_store.specs.Log.{block_stops}
use Rattle.log_cursor.specs.Cost.{seek_reads}
use Rattle.log_cursor.specs.Start.{start_at}
use Rattle.log_cursor.specs.declared.start.Start.{Start}
use Rattle.snapshots.specs.IndexCost.{seek_cost}
use Rattle.object_track.proofs.StopsLemmas.{All-stops_in, IsStopIn}
use Rattle.object_track.proofs.TableLemmas.{IsCellWithin-asked}
use Rattle.nearest_search.specs.Found.{near_in, near_with}

-- two objects that differ do not tie
then-apart : (a b : Ordering) → is_eq b ≡ false → is_eq (ordering_then a b) ≡ false
then-apart Less b apart = refl
then-apart Equal b apart = apart
then-apart Greater b apart = refl

numbers-apart : (a b : ℕ) → (a ≡ b → ⊥) → is_eq (nat_cmp a b) ≡ false
numbers-apart a b differ = grind (arith, nat_tests)

pub nears-apart : (a b : Near) → (a.object ≡ b.object → ⊥) → eq_by_cmp near_order a b ≡ false
nears-apart a b differ =
    then-apart (nat_cmp a.dist2 b.dist2) (nat_cmp a.object b.object) (numbers-apart a.object b.object differ)

-- where none of them passes, none of the first ones does
pub none-taken : {X : Type 0} (p : X → Bool) (k : ℕ) (xs : List X) → AllByRecursion (λ x. p x ≡ false) xs
    → list_any p (take k xs) ≡ false
none-taken p k xs none =
    let all : list_any p (take k xs ++ drop k xs) ≡ false =
    ap (list_any p) (take-append-drop k xs) ∙ list_any_none p xs (All-from_recursion (λ x. p x ≡ false) xs none) in
    list_any-front p (take k xs) (drop k xs) all

-- how near the few stops of an object are
few-near : (cell : Cell) (object : ℕ) (stops : List Stop) → length stops ≤ 1
    → map (near_of cell) (map (row_of object) stops)
    ≡ option_to_list (option_map (near_with cell object) (option_map (λ (s : Stop). s.cell) (slice_get stops 0)))
few-near cell object [] few = refl
few-near cell object (stop ∷ []) few = refl
few-near cell object (stop ∷ other ∷ stops) few = absurd (omega (arith, few))

module _ (parts : Parts) (valid : IsValid parts) (number : ℕ) (within : number < periods_of parts.frame)
    (instant : ℤ) (cell : Cell) where
  abbrev view : SnapshotView
  view = snapshot_in parts number

  -- how near an object's rows of the instant are
  nears_of_index : ℕ → List Near
  nears_of_index index = map (near_of cell) (map (row_of (slice_index parts.objects index))
      (filter (is_stop_at instant) (stops_in parts index number)))

  near-block : (index : ℕ) → nears_of_index index
      ≡ made_of (near_in parts number instant cell) (block_of view) (block_of view index)
  unfolding nears_of_index near_in cell_among stops_in
  near-block index = by_block (block_of view index) refl (stops_at-few parts valid instant index number within)
    where
      object : ℕ
      object = slice_index parts.objects index

      by_block : (found : Option Anchored) → block_of view index ≡ found
          → length (filter (is_stop_at instant) (stops_in_block parts number found)) ≤ 1
          → map (near_of cell) (map (row_of object) (filter (is_stop_at instant) (stops_in_block parts number found)))
          ≡ made_of (near_in parts number instant cell) (block_of view) found
      by_block None has few = refl
      by_block (Some block) has few =
          let stops : List Stop = stops_of parts number block in
          few-near cell object (filter (is_stop_at instant) stops) few
          ∙ ap (λ (o : Option Stop). option_to_list (option_map (near_with cell object)
          (option_map (λ (s : Stop). s.cell) o))) (sym (find-filter (is_stop_at instant) stops))
          ∙ ap (λ i. option_to_list (option_map (near_with cell (slice_index parts.objects i))
          (option_map (λ (s : Stop). s.cell) (find (is_stop_at instant) stops))))
          (sym (index-from_block_of view index block has))

  -- the rows of the instant are as near as the objects of the period's blocks
  pub nears_at-blocks : period_in parts.frame instant ≡ Some number
      → nears_at (chart_in parts).rows instant cell ≡ filter_map (near_in parts number instant cell) (all_blocks view)
  unfolding nears_at all_blocks nears_of_index
  nears_at-blocks when =
      let indices : List ℕ = range_with_len 0 (length parts.objects) in
      let rows : ℕ → List Row = λ index. map (row_of (slice_index parts.objects index))
      (filter (is_stop_at instant) (stops_in parts index number)) in
      ap (map (near_of cell)) (rows_at-instant parts valid instant number when)
      ∙ map-flat_map (near_of cell) rows indices
      ∙ flat_map_agree nears_of_index (λ index. made_of (near_in parts number instant cell)
      (block_of view) (block_of view index)) near-block indices
      ∙ flat_map-made (near_in parts number instant cell) (block_of view) indices

  -- an object that is near is at a stop of its block
  pub record IsNearBy (block : Anchored) (near : Near) : Type 0 where
    pub stop : Stop
    pub among : Contains (stops_of parts number block) stop
    pub at : is_stop_at instant stop ≡ true
    pub is : near_with cell (slice_index parts.objects block.index) stop.cell ≡ near

  pub near-by : (block : Anchored) (near : Near) → near_in parts number instant cell block ≡ Some near
      → IsNearBy block near
  unfolding near_in cell_among
  near-by block near found = by_stop (find (is_stop_at instant) (stops_of parts number block)) refl found
    where
      object : ℕ
      object = slice_index parts.objects block.index

      by_stop : (o : Option Stop) → find (is_stop_at instant) (stops_of parts number block) ≡ o
          → option_map (near_with cell object) (option_map (λ (s : Stop). s.cell) o) ≡ Some near → IsNearBy block near
      by_stop None is made = absurd (none-some near made)
      by_stop (Some stop) is made = record {
        stop = stop;
        among = member_of_find (is_stop_at instant) (stops_of parts number block) stop is;
        at = find-passes (is_stop_at instant) (stops_of parts number block) stop is;
        is = same_Some (near_with cell object stop.cell) near made;
      }

  -- where an object is found lies near
  pub cell-within : (block : Anchored) → IsBlock view block → (found : Option Cell)
      → found ≡ cell_among (stops_of parts number block) instant → IfSome found IsCellWithin
  unfolding cell_among stops_in
  cell-within block its None is = tt
  cell-within block its (Some found) is =
      let by = near-by block (near_with cell (slice_index parts.objects block.index) found)
      (unfold near_in in ap (option_map (near_with cell (slice_index parts.objects block.index))) (sym is)) in
      let In : Stop → Type 0 = IsStopIn (first_in parts.frame number) (end_in parts.frame number) in
      let near : IsCellAsked by.stop.cell =
      (All-contains In (stops_of parts number block) by.stop
      (subst (λ b. All In (stops_in_block parts number b)) its.its (All-stops_in parts valid block.index number within))
      by.among).near in
      IsCellWithin-asked found (subst IsCellAsked (ap (λ (n : Near). n.cell) by.is) near)

  -- a log is that of a block
  module _ (block : Anchored) (rules : RulesView) (log : List ℕ) (start : Start) (of : rules ≡ rules_in parts)
      (its_log : log ≡ log_in parts block)
      (its_start : start ≡ start_at (anchored_at parts.frame number block) block.cell) where
    pub cell-sought : (z : ℤ) → cell_among (block_stops rules start.instant start.cell log) z
        ≡ cell_among (stops_of parts number block) z
    cell-sought z = rw (of, its_log, its_start) refl

    pub seek-paid : seek_reads (length log) (depth_in rules) ≤ seek_cost parts (Some block)
    seek-paid =
        let short : length (log_in parts block) ≤ block.len =
        omega (arith, length-take (block.from + block.len - block.from) (drop block.from parts.symbols)) in
        rw (of, its_log) (omega (arith, short))

  -- how near what was found makes its object
  pub near-made : (block : Anchored) (o : Option Cell) → o ≡ cell_among (stops_of parts number block) instant
      → near_in parts number instant cell block ≡ option_map (near_with cell (slice_index parts.objects block.index)) o
  unfolding near_in
  near-made block o is = ap (option_map (near_with cell (slice_index parts.objects block.index))) (sym is)

  -- how near a block's object is
  pub record IsSeen (near : Near) : Type 0 where
    pub block : Anchored
    pub its : IsBlock view block
    pub is : near_in parts number instant cell block ≡ Some near

  -- the object is the block's
  pub object-of : (block : Anchored) (near : Near) → near_in parts number instant cell block ≡ Some near
      → slice_index parts.objects block.index ≡ near.object
  object-of block near found = ap (λ (n : Near). n.object) (near-by block near found).is

  -- objects are told by their places
  pub same-place : (i j : ℕ) → i < length parts.objects → j < length parts.objects
      → slice_index parts.objects i ≡ slice_index parts.objects j → i ≡ j
  same-place i j first second same = elim (cases_order i j) [
    | inl equal ↦ equal
    | inr differ ↦ elim differ [
      | inl less ↦
          let below = increasing-below parts.objects valid.shaped.objects i j less second in
          absurd (omega (arith, below, same))
      | inr more ↦
          let below = increasing-below parts.objects valid.shaped.objects j i more first in
          absurd (omega (arith, below, same))
    ]
  ]

  -- of each object there is one
  pub seen-one : (a b : Near) → IsSeen a → IsSeen b → a.object ≡ b.object → a ≡ b
  seen-one a b one two same =
      let index : one.block.index ≡ two.block.index =
      same-place one.block.index two.block.index (block-known parts valid number within one.block one.its)
      (block-known parts valid number within two.block two.its)
      (object-of one.block a one.is ∙ same ∙ sym (object-of two.block b two.is)) in
      let blocks : one.block ≡ two.block =
      same_Some one.block two.block (sym one.its.its ∙ ap (block_of view) index ∙ two.its.its) in
      same_Some a b (sym one.is ∙ ap (near_in parts number instant cell) blocks ∙ two.is)

  -- its number has 32 bits
  pub seen-small : (near : Near) → IsSeen near → near.object < 2 ^ 32
  seen-small near seen =
      let known : seen.block.index < length parts.objects =
      block-known parts valid number within seen.block seen.its in
      let short : slice_index parts.objects seen.block.index < 2 ^ 32 =
      valid.shaped.short_objects seen.block.index 0 known in
      omega (arith, short, object-of seen.block near seen.is)
