-- Groups of 32 places: marks that say which of them have a shortcut, and the targets of those that do.
use Rattle.std.specs.Prelude.{◌≡◌, ℕ, ◌+◌, ◌*◌, ◌/◌, ◌%◌, ◌^◌, ◌<◌, ◌==◌, if◌then◌else◌, is_some, Option, None, Some, List, [], ◌∷◌, length, map, slice_index, slice_index_or}
use Rattle.std.specs.List.{filter_map, range_with_len}
use Rattle.std.specs.Int.{bit_at}
use Rattle.std.specs.Int.RustNames.{count_ones}

-- the number whose bits say which elements are there, the first one's lowest
unfoldable pub marks_of : List (Option ℕ) → ℕ
marks_of [] = 0
marks_of (target ∷ rest) = (if is_some target then 1 else 0) + 2 * marks_of rest

-- the elements that are there, in order
abbrev pub targets_of : List (Option ℕ) → List ℕ
targets_of places = filter_map (λ target. target) places

-- a group: the marks of its places, and how many places of earlier groups have a shortcut
abbrev pub Group : Type 0
Group = ℕ × ℕ

-- a group without a mark
abbrev pub empty_group : Group
empty_group = (0, 0)

-- where the target of the group's place stands: after those of earlier groups and of the places marked before it
abbrev pub target_index : Group → ℕ → ℕ
target_index group bit = group.1 + count_ones (group.0 % 2 ^ bit)

-- the shortcut of the group's place
unfoldable pub shortcut_in : Group → List ℕ → ℕ → Option ℕ
shortcut_in group targets bit = if bit_at group.0 bit == 1 then Some
    (slice_index targets (target_index group bit)) else None

-- the shortcut of a place, from its group
unfoldable pub shortcut_at : List Group → List ℕ → ℕ → Option ℕ
shortcut_at groups targets place = shortcut_in (slice_index_or groups (place / 32) empty_group) targets (place % 32)

-- the shortcuts of all places of the groups
unfoldable pub shortcuts_of : List Group → List ℕ → List (Option ℕ)
shortcuts_of groups targets = map (shortcut_at groups targets) (range_with_len 0 (32 * length groups))

-- each mark has a target
abbrev pub HasEach : List Group → List ℕ → Type 0
HasEach groups targets = (number bit : ℕ) → number < length groups → bit < 32 →
    bit_at (slice_index_or groups number empty_group).0 bit ≡ 1
    → target_index (slice_index_or groups number empty_group) bit < length targets

-- each mark has a target, and there are fewer than 2^32
pub record HasTargets (groups : List Group) (targets : List ℕ) : Type 0 where
  pub few : length targets < 2 ^ 32
  pub each : HasEach groups targets
