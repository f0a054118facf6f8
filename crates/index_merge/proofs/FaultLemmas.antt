-- The first cause in the order in which causes are looked for.
use Rattle.std.proofs.Common.{◌≡◌, ℕ, suc, ◌+◌, ◌<◌, ◌≤◌, Bool, true, false, List, [], ◌∷◌, Option, None, Some, drop, refl, ap, sym, ◌∙◌, arith}
use Rattle.std.specs.Prelude.{◌==◌, slice_get, find}
use Rattle.std.specs.Option.{option_map, option_or}
use Rattle.std.proofs.Math.Seq.{drop-cons}
use Rattle.std.proofs.lemmas.Option.{get_or_from_slice_get, slice_get_within}
use Rattle.track_types.specs.declared.frame.Frame.{Frame}
use Rattle.track_types.specs.declared.parts.Parts.{Parts}
use Rattle.gridding.specs.GridLimit.{IsGridFaultFor}
use Rattle.gridding.specs.declared.fault.GridFault.{GridFault}
use Rattle.gridding.specs.declared.fault.GridFault.TheVariants as gridding
use Rattle.snapshots.specs.Parts.{chart_in}
use Rattle.track_index.specs.Listed.{is_listed}
use Rattle.path_union.specs.Fault.{rows_fault}
use Rattle.path_union.specs.Union.{rows_of_both}
use Rattle.index_merge.specs.MergeFault.{common_fault, merge_fault, merge_fault_of, settings_fault, IsMergeFaultFor}
use Rattle.index_merge.specs.declared.fault.MergeFault.{MergeFault}
use Rattle.index_merge.specs.declared.fault.MergeFault.TheVariants as fault

-- what is the fault is a fault for it
pub IsMergeFaultFor-is : (first : Option MergeFault) (told : MergeFault) → first ≡ Some told → IsMergeFaultFor first told
IsMergeFaultFor-is first fault.Memory is = tt
IsMergeFaultFor-is first fault.Empty is = is
IsMergeFaultFor-is first (fault.Common object) is = is
IsMergeFaultFor-is first (fault.Limit kind value) is = is
IsMergeFaultFor-is first (fault.Settings which left right) is = is

-- headers and objects of what is the same have the same faults
pub settings_fault-alike : (left right one other : Parts) (frame also : Frame) → one ≡ left → other ≡ right
    → frame ≡ one.frame → also ≡ other.frame → settings_fault left.frame right.frame ≡ settings_fault frame also
settings_fault-alike left right one other frame also one_is other_is frame_is also_is =
    sym (ap (λ (f : Frame). settings_fault f also) (frame_is ∙ ap (λ (p : Parts). p.frame) one_is)
    ∙ ap (λ (f : Frame). settings_fault left.frame f) (also_is ∙ ap (λ (p : Parts). p.frame) other_is))

pub common_fault-alike : (left right one other : Parts) → one ≡ left → other ≡ right
    → common_fault left.objects right.objects ≡ common_fault one.objects other.objects
common_fault-alike left right one other one_is other_is =
    sym (ap (λ (p : Parts). common_fault p.objects other.objects) one_is
    ∙ ap (λ (p : Parts). common_fault left.objects p.objects) other_is)

module _ (left right : Parts) where
  -- a setting differs
  pub merge_fault-settings : (told : MergeFault) → settings_fault left.frame right.frame ≡ Some told
      → merge_fault left right ≡ Some told
  unfolding merge_fault
  merge_fault-settings told is =
      ap (λ first. option_or first (option_or (common_fault left.objects right.objects)
      (option_map merge_fault_of (rows_fault (rows_of_both (chart_in left).rows (chart_in right).rows) left.frame.period)))) is

  module _ (same : settings_fault left.frame right.frame ≡ None) where
    -- none does
    merge_fault-same : merge_fault left right ≡ option_or (common_fault left.objects right.objects)
        (option_map merge_fault_of (rows_fault (rows_of_both (chart_in left).rows (chart_in right).rows) left.frame.period))
    unfolding merge_fault
    merge_fault-same =
        ap (λ first. option_or first (option_or (common_fault left.objects right.objects)
        (option_map merge_fault_of (rows_fault (rows_of_both (chart_in left).rows (chart_in right).rows) left.frame.period)))) same

    -- an object is in both
    pub merge_fault-common : (told : MergeFault) → common_fault left.objects right.objects ≡ Some told
        → merge_fault left right ≡ Some told
    merge_fault-common told is =
        merge_fault-same
        ∙ ap (λ first. option_or first (option_map merge_fault_of (rows_fault (rows_of_both (chart_in left).rows (chart_in right).rows) left.frame.period))) is

    module _ (apart : common_fault left.objects right.objects ≡ None) where
      -- none is
      merge_fault-apart : merge_fault left right ≡ option_map merge_fault_of (rows_fault (rows_of_both (chart_in left).rows (chart_in right).rows) left.frame.period)
      merge_fault-apart =
          merge_fault-same
          ∙ ap (λ first. option_or first (option_map merge_fault_of (rows_fault (rows_of_both (chart_in left).rows (chart_in right).rows) left.frame.period))) apart

      -- what is judged of the rows of both is
      pub merge_fault-rows : (told : GridFault)
          → IsGridFaultFor (rows_fault (rows_of_both (chart_in left).rows (chart_in right).rows) left.frame.period) told
          → IsMergeFaultFor (merge_fault left right) (merge_fault_of told)
      merge_fault-rows gridding.Memory is = tt
      merge_fault-rows gridding.Empty is = merge_fault-apart ∙ ap (option_map merge_fault_of) is
      merge_fault-rows (gridding.Limit kind value) is = merge_fault-apart ∙ ap (option_map merge_fault_of) is

      -- nothing is refused
      pub merge_fault-none : rows_fault (rows_of_both (chart_in left).rows (chart_in right).rows) left.frame.period ≡ None
          → merge_fault left right ≡ None
      merge_fault-none none = merge_fault-apart ∙ ap (option_map merge_fault_of) none

-- a search among those from a place on, of which the first is at hand
module _ (left right : List ℕ) where
  abbrev is_common : ℕ → Bool
  is_common object = is_listed object right

  module _ (place object : ℕ) (so_far : find is_common left ≡ find is_common (drop place left))
      (here : slice_get left place ≡ Some object) where
    found-from : find is_common left ≡ find is_common (object ∷ drop (suc place) left)
    found-from =
        so_far ∙ ap (find is_common) (drop-cons left place 0 (slice_get_within left place object here)
        ∙ ap (λ x. x ∷ drop (suc place) left) (get_or_from_slice_get left place object 0 here))

    -- it is in both
    pub common-here : is_common object ≡ true → common_fault left right ≡ Some (fault.Common object)
    common-here listed =
        let found : find is_common left ≡ Some object = found-from ∙ rw listed refl in
        ap (option_map fault.Common) found

    -- it is not
    pub common-next : is_common object ≡ false → find is_common left ≡ find is_common (drop (place + 1) left)
    common-next unlisted =
        let next : place + 1 ≡ suc place = omega arith in
        found-from ∙ rw (unlisted, next) refl
