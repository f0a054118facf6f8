-- How bits are read for their first flaw, a group and a level at a time.
use Rattle.std.specs.Prelude.{◌≡◌, ℕ, ◌+◌, ◌*◌, ◌≤◌, nat_le, Bool, if◌then◌else◌, List, length, take, drop}
use Rattle.std.specs.Prelude.{Option, None}
use Rattle.std.specs.Option.{option_map}
use Rattle.packed_bits.specs.Bits.{ones_of}
use Rattle.k2_tree.specs.Flaws.{group_flaw}

-- how many ones the group of so many bits at the front has, and none where it is not whole
abbrev pub group_ones : ℕ → List Bool → ℕ
group_ones size bits = if nat_le size (length bits) then ones_of (take size bits) else 0

-- a flaw's place, where it was counted from a place on
abbrev pub flaw_from : ℕ → Option ℕ → Option ℕ
flaw_from start flaw = option_map (λ place. start + place) flaw

-- from a place on stand so many whole groups, each with a one, and they have so many ones
pub record IsLevel (size : ℕ) (bits : List Bool) (start groups ones : ℕ) : Type 0 where
  pub whole : start + size * groups ≤ length bits
  pub flawless : group_flaw size groups (drop start bits) ≡ None
  pub counted : ones ≡ ones_of (take (size * groups) (drop start bits))
