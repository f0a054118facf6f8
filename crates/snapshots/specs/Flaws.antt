-- The first flaw of parts that are not those of a period.
use Rattle.std.specs.Prelude.{◌≡◌, ℕ, ◌+◌, ◌-◌, ◌<◌, ◌≤◌, ◌==◌, Bool, not, ◌&&◌, ◌||◌, nat_le, false}
use Rattle.std.specs.Prelude.{if◌then◌else◌, List, length, sum, find, slice_index, slice_index_or, Option}
use Rattle.std.specs.Prelude.{None, Some}
use Rattle.std.specs.Option.{option_map, option_or}
use Rattle.std.specs.List.{range_with_len}
use Rattle.packed_bits.specs.Bits.{ones_of}
use Rattle.object_perm.specs.Permutation.{first_flawed_place}
use Rattle.track_types.specs.Flaws.{flaw_in, IsFormatFaultFor}
use Rattle.track_types.specs.Frame.{IsFrame, instants_in, periods_of}
use Rattle.track_types.specs.Limits.{limit_of}
use Rattle.track_types.specs.declared.limit.LimitKind.TheVariants.{Objects, Symbols}
use Rattle.track_types.specs.declared.flaw.Flaw.{Flaw}
use Rattle.track_types.specs.declared.frame.Frame.{Frame}
use Rattle.track_types.specs.declared.flaw.Section.TheVariants.{Offsets, Tree, Lasts, Perm}
use Rattle.track_types.specs.declared.flaw.Kind.TheVariants as kind
use Rattle.track_types.specs.declared.format_fault.FormatFault.{FormatFault}
use Rattle.track_types.specs.declared.format_fault.FormatFault.TheVariants as format
use Rattle.track_types.specs.declared.limit.TheConstants.{MAX_TREE}
use Rattle.k2_tree.specs.Flaws.{tree_flaw}
use Rattle.snapshots.specs.View.{SnapshotView, tree_in, widths_in}
use Rattle.snapshots.specs.declared.fault.SnapFault.{SnapFault}
use Rattle.snapshots.specs.declared.fault.SnapFault.TheVariants as fault

-- what is known of parts before they are judged: the header's ranges, and lists as long as the presence bits say
pub record IsShapedView (view : SnapshotView) : Type 0 where
  pub header : IsFrame view.frame
  pub period : view.number < periods_of view.frame
  pub some : 1 ≤ view.objects
  pub few : view.objects ≤ limit_of Objects
  pub bits : length view.parts.tree ≤ MAX_TREE
  pub presence : length view.parts.present ≡ view.objects
  pub offsets : length view.parts.offsets ≡ ones_of view.parts.present
  pub lasts : length view.parts.lasts ≡ ones_of view.parts.present
  pub perm : length view.parts.perm ≡ ones_of view.parts.present
  pub lengths : length view.parts.lengths ≡ ones_of view.parts.present
  pub total : view.start + sum view.parts.lengths ≤ limit_of Symbols

-- the first offset that is not below the number of the period's instants
abbrev pub offset_flaw : ℕ → List ℕ → Option ℕ
offset_flaw instants offsets = find (λ i. nat_le instants (slice_index offsets i)) (range_with_len 0 (length offsets))

-- as many objects are the last of their cell as there are leaves, and the last object is one of them
abbrev pub have_cells : List Bool → ℕ → Bool
have_cells lasts leaves = (ones_of lasts == leaves)
    && (length lasts == 0 || slice_index_or lasts (length lasts - 1) false)

-- the object at a place in leaf order is in the cell of the one before it, and not greater
abbrev pub is_disordered : List Bool → List ℕ → ℕ → Bool
is_disordered lasts perm place = not (slice_index_or lasts (place - 1) false)
    && nat_le (slice_index perm place) (slice_index perm (place - 1))

-- the first such place
abbrev pub order_flaw : List Bool → List ℕ → Option ℕ
order_flaw lasts perm = find (is_disordered lasts perm) (range_with_len 1 (length perm - 1))

-- the first flaw of bits that are no tree's of this header
abbrev pub bits_flaw : ℕ → Frame → List Bool → Option Flaw
bits_flaw number frame bits = option_map (flaw_in number Tree kind.Tree) (tree_flaw (widths_in frame) bits)

-- the first flaw of a list that is no permutation, or does not ascend in each cell
abbrev pub perm_flaw : ℕ → List Bool → List ℕ → Option Flaw
perm_flaw number lasts perm = option_or (option_map (flaw_in number Perm kind.Perm) (first_flawed_place perm))
    (option_map (flaw_in number Perm kind.CellOrder) (order_flaw lasts perm))

-- the first flaw of a period's parts, or none
abbrev pub flaw_of : SnapshotView → Option Flaw
flaw_of view =
    option_or (option_map (flaw_in view.number Offsets kind.Offset)
    (offset_flaw (instants_in view.frame view.number) view.parts.offsets))
    (option_or (bits_flaw view.number view.frame view.parts.tree)
    (option_or (if have_cells view.parts.lasts (length (tree_in view).cells) then None
    else Some (flaw_in view.number Lasts kind.Cells (length view.parts.lasts)))
    (perm_flaw view.number view.parts.lasts view.parts.perm)))

-- what a fault of a period is in an index
abbrev pub format_fault_of_period : SnapFault → FormatFault
format_fault_of_period (fault.Flaw flaw) = format.Flaw flaw
format_fault_of_period fault.Memory = format.Memory

-- a flaw is this one; memory may be wanting for any parts
abbrev pub IsSnapFaultFor : Option Flaw → SnapFault → Type 0
IsSnapFaultFor first fault = IsFormatFaultFor first (format_fault_of_period fault)
