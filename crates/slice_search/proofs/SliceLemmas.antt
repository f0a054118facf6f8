-- What a walk finds, put in order by object, is the answer to a slice.
use Rattle.std.proofs.Common.{◌≡◌, ℕ, ◌<◌, ℤ, Bool, false, List, [], ◌∷◌, map, filter, get_or, All}
use Rattle.std.proofs.Common.{Option, None, Some, inl, inr, refl, ap, sym, subst, ◌∙◌, arith}
use Rattle.std.specs.Prelude.{is_some, slice_index}
use Rattle.std.specs.List.{filter_map, sum_by}
use Rattle.std.specs.List.Sorted.{IsNonDecreasingBy, IsPermutation, IsStrictlySortedBy}
use Rattle.std.specs.Option.{option_map}
use Rattle.std.proofs.lemmas.Bool.{cases_order}
use Rattle.std.proofs.lemmas.Int.{clamps, ints}
use Rattle.std.proofs.lemmas.List.Kept.{IsStrictlySortedBy-filter}
use Rattle.std.proofs.lemmas.List.Sorted.{All-permutation, sum_by-IsPermutation}
use Rattle.std.proofs.lemmas.Map.Keys.{sorted_head, sorted_tail}
use Rattle.std.proofs.lemmas.Option.{none-some, same_Some}
use Rattle.list_laws.proofs.IncreasingLemmas.{increasing-below}
use Rattle.list_laws.proofs.OptionLemmas.{filter_map-filter, All-made}
use Rattle.list_laws.proofs.SumLemmas.{made_weight, sum_by-filter_map}
use Rattle.list_laws.proofs.WeightLemmas.{same_from_weights, IsRising, IsRising-from_order}
use Rattle.track_types.specs.ByFilter.{is_sighted, sighting_of, sightings_of}
use Rattle.track_types.specs.Frame.{periods_of, IsFrame}
use Rattle.track_types.specs.Row.{row_order}
use Rattle.track_types.specs.declared.frame.Frame.{Frame}
use Rattle.track_types.specs.declared.parts.Parts.{Parts}
use Rattle.track_types.specs.declared.region.Region.{Region}
use Rattle.track_types.specs.declared.row.Row.{Row}
use Rattle.track_types.specs.declared.sighting.Sighting.{Sighting}
use Rattle.track_types.specs.declared.stop.Stop.{Stop}
use Rattle.track_types.proofs.RowLemmas.{object_le}
use Rattle.snapshots.specs.Objects.{WeighSame}
use Rattle.snapshots.specs.Parts.{chart_in, period_in, snapshot_in}
use Rattle.snapshots.specs.Sound.{IsBlock}
use Rattle.snapshots.specs.SoundParts.{IsValid}
use Rattle.snapshots.specs.View.{SnapshotView, all_blocks, block_of}
use Rattle.snapshots.specs.declared.anchored.Anchored.{Anchored}
use Rattle.snapshots.proofs.BlockFactsLemmas.{All-all_blocks}
use Rattle.snapshots.proofs.ReachLemmas.{IsSnapshot-valid}
use Rattle.object_track.proofs.BlockLemmas.{block-known}
use Rattle.object_track.proofs.InstantLemmas.{rows_at-outside}
use Rattle.object_track.proofs.MetLemmas.{period_in-some}
use Rattle.object_track.proofs.TableLemmas.{IsTable-chart_in}
use Rattle.slice_search.specs.Cost.{period_search_cost, slice_cost, slice_cost_in}
use Rattle.slice_search.specs.Sightings.{seen_at, sighting_in, AreSightings}
use Rattle.slice_search.specs.Sought.{first_stop_in, has_stop_in, latest_in}
use Rattle.slice_search.proofs.SightingLemmas.{filter_both, is_row_in, sightings_of-blocks}

-- the object of a sighting
abbrev pub object_of : Sighting → ℕ
object_of sighting = sighting.object

-- rows in order have their objects in order
sightings-rise : (rows : List Row) → IsStrictlySortedBy row_order rows → IsRising object_of (map sighting_of rows)
sightings-rise [] up = tt
sightings-rise (row ∷ []) up = tt
sightings-rise (row ∷ other ∷ rows) up = (
  object_le row other (sorted_head row_order row (other ∷ rows) up).0,
  sightings-rise (other ∷ rows) (sorted_tail row_order row (other ∷ rows) up),
)

-- a sighting is a stop's
seen-from : (object : ℕ) (found : Option Stop) (sighting : Sighting)
    → option_map (seen_at object) found ≡ Some sighting
    → (stop : Stop) × (found ≡ Some stop) × (seen_at object stop ≡ sighting)
seen-from object None sighting is = absurd (none-some sighting is)
seen-from object (Some stop) sighting is = (stop, refl, same_Some (seen_at object stop) sighting is)

module _ (parts : Parts) (valid : IsValid parts) (instant : ℤ) (number : ℕ) (within : number < periods_of parts.frame)
    (region : Region) where
  abbrev view : SnapshotView
  view = snapshot_in parts number

  abbrev seen : Anchored → Option Sighting
  seen block = sighting_in parts number instant instant region block

  -- the sighting is that of a block
  record IsSeen (sighting : Sighting) : Type 0 where
    pub block : Anchored
    pub its : IsBlock view block
    pub is : seen block ≡ Some sighting

  abbrev has : Anchored → Bool
  has block = has_stop_in parts number instant instant region block

  -- the object of a sighting is its block's
  object-seen : (block : Anchored) (sighting : Sighting) → seen block ≡ Some sighting
      → slice_index parts.objects block.index ≡ sighting.object
  unfolding sighting_in
  object-seen block sighting is =
      ap object_of (seen-from (slice_index parts.objects block.index)
      (first_stop_in parts number instant instant region block) sighting is).2

  -- two sightings of one object are the same
  seen-one : (a b : Sighting) → IsSeen a → IsSeen b → a.object ≡ b.object → a ≡ b
  seen-one a b one two same =
      let i : ℕ = one.block.index in
      let j : ℕ = two.block.index in
      let first = object-seen one.block a one.is in
      let second = object-seen two.block b two.is in
      let index : i ≡ j = elim (cases_order i j) [
        | inl equal ↦ equal
        | inr differ ↦ elim differ [
          | inl less ↦
              let below = increasing-below parts.objects valid.shaped.objects i j less
              (block-known parts valid number within two.block two.its) in
              absurd (omega (arith, below, first, second, same))
          | inr more ↦
              let below = increasing-below parts.objects valid.shaped.objects j i more
              (block-known parts valid number within one.block one.its) in
              absurd (omega (arith, below, first, second, same))
        ]
      ] in
      let blocks : one.block ≡ two.block = same_Some one.block two.block
      (sym one.its.its ∙ ap (block_of view) index ∙ two.its.its) in
      same_Some a b (sym one.is ∙ ap seen blocks ∙ two.is)

  -- the sightings of blocks are seen
  All-seen : (blocks : List Anchored) → All (IsBlock view) blocks → All IsSeen (filter_map seen blocks)
  All-seen blocks all =
      All-made seen (IsBlock view) IsSeen
      (λ block sighting its is. record { block = block; its = its; is = is }) blocks all

  -- a block without a stop has no sighting
  unseen : (block : Anchored) → has block ≡ false → seen block ≡ None
  unfolding sighting_in
  unseen block gone = none-of (first_stop_in parts number instant instant region block) gone
    where
      none-of : (found : Option Stop) → is_some found ≡ false
          → option_map (seen_at (slice_index parts.objects block.index)) found ≡ None
      none-of None gone = refl
      none-of (Some stop) gone = absurd (cc)

  -- so no sighting is lost with the blocks that have none
  seen-has : (blocks : List Anchored) → filter_map seen (filter has blocks) ≡ filter_map seen blocks
  seen-has blocks = filter_map-filter seen has blocks (λ k d below. unseen (get_or blocks k d))

  -- sightings of the same blocks weigh the same
  weigh-seen : (found : List Sighting) → AreSightings parts number instant region found → (weight : Sighting → ℕ)
      → sum_by weight found ≡ sum_by weight (filter_map seen (all_blocks view))
  unfolding WeighSame
  weigh-seen found are weight =
      ap (sum_by weight) (are.their ∙ sym (seen-has are.blocks))
      ∙ sum_by-filter_map weight seen (filter has are.blocks)
      ∙ are.sought.wanted (λ block. made_weight weight (seen block))
      ∙ sym (sum_by-filter_map weight seen (filter has (all_blocks view)))
      ∙ ap (sum_by weight) (seen-has (all_blocks view))

  -- in order they are the answer
  pub slice-sorted : (found sorted : List Sighting) → period_in parts.frame instant ≡ Some number
      → AreSightings parts number instant region found → IsPermutation found sorted
      → IsNonDecreasingBy object_of sorted → sorted ≡ sightings_of (chart_in parts).rows instant region
  unfolding sightings_of
  slice-sorted found sorted when are moved up =
      let answer = sightings_of-blocks parts valid instant number within region when in
      let blocks = All-all_blocks view (IsSnapshot-valid parts valid number within) in
      same_from_weights object_of IsSeen seen-one sorted
      (map sighting_of (filter (is_sighted instant region) (chart_in parts).rows))
      (All-permutation IsSeen found sorted moved
      (subst (All IsSeen) (sym are.their) (All-seen are.blocks are.sought.are)))
      (subst (All IsSeen) (sym answer) (All-seen (all_blocks view) blocks))
      (IsRising-from_order object_of sorted up)
      (sightings-rise (filter (is_sighted instant region) (chart_in parts).rows)
      (IsStrictlySortedBy-filter row_order (is_sighted instant region) (chart_in parts).rows
      (IsTable-chart_in parts valid).ascending))
      (λ weight. sum_by-IsPermutation weight found sorted moved ∙ weigh-seen found are weight
      ∙ ap (sum_by weight) (sym answer))

-- an instant of no period has no sightings
pub sightings_of-outside : (parts : Parts) → IsValid parts → (instant : ℤ) (region : Region)
    → period_in parts.frame instant ≡ None → [] ≡ sightings_of (chart_in parts).rows instant region
unfolding sightings_of
sightings_of-outside parts valid instant region when =
    sym (ap (map sighting_of) (filter_both instant region (chart_in parts).rows
    ∙ ap (filter (is_row_in region)) (rows_at-outside parts valid instant when)))

-- the last instant of a window of one instant
pub latest_in-one : (frame : Frame) → IsFrame frame → (instant : ℤ) (number : ℕ)
    → period_in frame instant ≡ Some number → latest_in frame number instant ≡ instant
latest_in-one frame header instant number when =
    let ends = (period_in-some frame header instant number when).2 in omega (arith, ints, clamps, ends)

-- an instant of a period costs what is sought in the period
pub slice_cost-some : (parts : Parts) → IsFrame parts.frame → (instant : ℤ) (region : Region) (number : ℕ)
    → period_in parts.frame instant ≡ Some number
    → period_search_cost parts number instant instant region (latest_in parts.frame number instant)
    ≡ slice_cost parts instant region
unfolding slice_cost
slice_cost-some parts header instant region number when =
    ap (period_search_cost parts number instant instant region) (latest_in-one parts.frame header instant number when)
    ∙ sym (ap (slice_cost_in parts instant region) when)
