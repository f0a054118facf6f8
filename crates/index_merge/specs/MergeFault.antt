-- Why two indexes have no union: the first cause in order.
use Rattle.std.specs.Prelude.{◌≡◌, ⊤, ℕ, Bool, not, ◌==◌, List, [], ◌∷◌, find, Option, Some}
use Rattle.std.specs.Option.{option_map, option_or}
use Rattle.track_types.specs.declared.frame.Frame.{Frame}
use Rattle.track_types.specs.declared.parts.Parts.{Parts}
use Rattle.track_types.specs.declared.setting.Setting.{Setting}
use Rattle.track_types.specs.declared.setting.Setting.TheVariants as setting
use Rattle.gridding.specs.declared.fault.GridFault.{GridFault}
use Rattle.gridding.specs.declared.fault.GridFault.TheVariants as gridding
use Rattle.snapshots.specs.Parts.{chart_in}
use Rattle.track_index.specs.Listed.{is_listed}
use Rattle.path_union.specs.Fault.{rows_fault}
use Rattle.path_union.specs.Union.{rows_of_both}
use Rattle.index_merge.specs.declared.fault.MergeFault.{MergeFault}
use Rattle.index_merge.specs.declared.fault.MergeFault.TheVariants as fault

-- the settings of two headers, in the order in which they are compared
abbrev pub compared_settings : Frame → Frame → List (Setting × ℕ × ℕ)
compared_settings left right =
    (setting.Cell, left.cell, right.cell) ∷ (setting.Tick, left.tick, right.tick) ∷ (setting.Period, left.period, right.period) ∷ []

-- whether a setting is not the same in both
abbrev pub differs : Setting × ℕ × ℕ → Bool
differs (which, left, right) = not (left == right)

-- the fault that tells a setting
abbrev pub setting_fault : Setting × ℕ × ℕ → MergeFault
setting_fault (which, left, right) = fault.Settings which left right

-- the first setting that differs, with both numbers
abbrev pub settings_fault : Frame → Frame → Option MergeFault
settings_fault left right = option_map setting_fault (find differs (compared_settings left right))

-- The first object of the one list that is in the other too. Objects ascend, so that it is the least.
abbrev pub common_fault : List ℕ → List ℕ → Option MergeFault
common_fault left right = option_map fault.Common (find (λ object. is_listed object right) left)

-- a fault of the rows of both, as one of the merge
abbrev pub merge_fault_of : GridFault → MergeFault
merge_fault_of gridding.Empty = fault.Empty
merge_fault_of (gridding.Limit kind value) = fault.Limit kind value
merge_fault_of gridding.Memory = fault.Memory

-- the first cause for which two indexes have no union: a setting that differs, an object in both, or what is judged of
-- the rows of both
unfoldable pub merge_fault : Parts → Parts → Option MergeFault
merge_fault left right = option_or (settings_fault left.frame right.frame)
    (option_or (common_fault left.objects right.objects)
    (option_map merge_fault_of (rows_fault (rows_of_both (chart_in left).rows (chart_in right).rows) left.frame.period)))

-- a fault is this one, or memory was refused
abbrev pub IsMergeFaultFor : Option MergeFault → MergeFault → Type 0
IsMergeFaultFor first fault.Memory = ⊤
IsMergeFaultFor first fault.Empty = first ≡ Some fault.Empty
IsMergeFaultFor first (fault.Common object) = first ≡ Some (fault.Common object)
IsMergeFaultFor first (fault.Limit kind value) = first ≡ Some (fault.Limit kind value)
IsMergeFaultFor first (fault.Settings which left right) = first ≡ Some (fault.Settings which left right)
