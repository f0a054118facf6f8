-- Which reads a meeting of two objects needs of an index: of rules only those that are close to a node of the other block.
use Rattle.std.specs.Prelude.{ℕ, ℤ, Bool, false, ◌&&◌, Option, None, Some}
use Rattle.std.specs.List.{list_any}
use Rattle.step_count.specs.Reads.{Read, ofRule}
use Rattle.track_types.specs.declared.parts.Parts.{Parts}
use Rattle.snapshots.specs.IndexCost.{is_met}
use Rattle.snapshots.specs.Needs.{needs_in}
use Rattle.snapshots.specs.Parts.{index_in, numbers_in, rules_in, snapshot_in}
use Rattle.snapshots.specs.View.{block_of}
use Rattle.snapshots.specs.declared.anchored.Anchored.{Anchored}
use Rattle.object_track.specs.Needs.{is_of_pair}
use Rattle.encounter.specs.MeetCost.{block_tree}
use Rattle.encounter.specs.Span.{close_rule}

-- a rule is close in two blocks of a period, if there are both
abbrev pub pair_rule : Parts → ℤ → ℤ → ℕ → ℕ → Option Anchored → Option Anchored → ℕ → Bool
pair_rule parts from to reach number None right rule = false
pair_rule parts from to reach number (Some left) None rule = false
pair_rule parts from to reach number (Some left) (Some right) rule = close_rule (rules_in parts) from to reach
    (block_tree parts number left) (block_tree parts number right) rule

-- a rule is close in the blocks of two objects in a period, by their places among all objects
abbrev pub period_rule : Parts → ℕ → ℕ → ℤ → ℤ → ℕ → ℕ → ℕ → Bool
period_rule parts left right from to reach number = pair_rule parts from to reach number
    (block_of (snapshot_in parts number) left) (block_of (snapshot_in parts number) right)

-- the reads of some periods for a meeting of two objects, by their places
abbrev pub pair_needs : Parts → ℕ → ℕ → ℤ → ℤ → ℕ → (ℕ → Bool) → Read → Bool
pair_needs parts left right from to reach periods (ofRule rule) =
    list_any (λ number. periods number && period_rule parts left right from to reach number rule) (numbers_in parts.frame)
pair_needs parts left right from to reach periods other =
    needs_in parts.frame periods (is_of_pair parts (Some left) (Some right)) other

-- the reads of a meeting of two objects, by their places: of each period that the window meets, and none where an object is
-- unknown
abbrev pub meet_needs_of : Parts → Option ℕ → Option ℕ → ℤ → ℤ → ℕ → Read → Bool
meet_needs_of parts None right from to reach read = false
meet_needs_of parts (Some left) None from to reach read = false
meet_needs_of parts (Some left) (Some right) from to reach read =
    pair_needs parts left right from to reach (is_met parts.frame from to) read

-- the reads of a meeting of two objects
abbrev pub meet_needs : Parts → ℕ → ℕ → ℤ → ℤ → ℕ → Read → Bool
meet_needs parts left right from to reach =
    meet_needs_of parts (index_in parts.objects left) (index_in parts.objects right) from to reach
