-- How the nodes of a tree are made: a list of squares that grows while it is gone through.
use Rattle.std.specs.Prelude.{◌≡◌, ℕ, suc, ◌+◌, ◌-◌, ◌*◌, ◌^◌, ◌<◌, ◌≤◌, ◌==◌, ◌⊎◌, true, filter, List, [], ◌∷◌, ◌++◌}
use Rattle.std.specs.Prelude.{length, map, All, slice_get, Some}
use Rattle.track_types.specs.declared.cell_box.CellBox.{CellBox}
use Rattle.k2_tree.specs.Areas.{IsBoxInside}
use Rattle.track_types.specs.declared.limit.TheConstants.{MAX_HEIGHT}
use Rattle.k2_tree.specs.TreeBits.{code_limit}
use Rattle.track_types.specs.Near.{IsBoxWithin}
use Rattle.track_types.specs.declared.cell.Cell.{Cell}
use Rattle.box_tree.specs.Boxes.{IsFrom}
use Rattle.box_tree.specs.NodeKinds.{link_kind}
use Rattle.std.specs.Int.{bit_at}
use Rattle.std.specs.List.{range_with_len, sum_by}
use Rattle.box_tree.specs.Levels.{children, digits, square_start, is_held, run, squares_in}
use Rattle.box_tree.specs.Places.{Square, box_at, square_with}
use Rattle.box_tree.specs.Held.{IsBranch, IsBucket, mask_digits}
use Rattle.box_tree.specs.Tree.{levels_below}
use Rattle.box_tree.specs.Cost.{bucket_limit}
use Rattle.box_tree.specs.declared.node_kind.NodeKind.{NodeKind}
use Rattle.box_tree.specs.declared.node_kind.NodeKind.TheVariants.{Bucket, Branch}
use Rattle.box_tree.specs.declared.task.Task.{Task}

-- the levels below a task's square
abbrev pub task_levels : ℕ → Task → List ℕ
task_levels narrow task = levels_below narrow task.below

-- the square of a task
abbrev pub task_square : ℕ → Task → Square
task_square narrow task = square_with (task_levels narrow task) task.prefix

-- a task has its square and its places
pub record IsTask (codes : List ℕ) (narrow : ℕ) (task : Task) : Type 0 where
  pub level : digits (task_levels narrow task) ≡ task.level
  pub deep : task.level ≤ MAX_HEIGHT
  pub small : (task.prefix + 1) * 4 ^ task.level ≤ code_limit
  pub places : IsBucket codes task.level task.prefix task.low task.high
  pub some : task.low < task.high

-- a task of these levels and this prefix stands at a place
pub record IsTaskAt (tasks : List Task) (below prefix number : ℕ) : Type 0 where
  pub task : Task
  pub stands : slice_get tasks number ≡ Some task
  pub same_below : task.below ≡ below
  pub same_prefix : task.prefix ≡ prefix

-- a branch whose children stand among the tasks
pub record IsSplit (codes : List ℕ) (narrow : ℕ) (tasks : List Task) (task : Task) (end mask : ℕ) : Type 0 where
  pub width : ℕ
  pub lower : ℕ
  pub deep : task.below ≡ suc lower
  pub levels : levels_below narrow (suc lower) ≡ width ∷ levels_below narrow lower
  pub branch : IsBranch codes (digits (levels_below narrow lower)) width task.prefix end mask (IsTaskAt tasks lower)

-- what the kind that was made of a task says
abbrev pub IsMadeKind : List ℕ → ℕ → List Task → Task → NodeKind → Type 0
IsMadeKind codes narrow tasks task (Bucket low high) =
    (low ≡ task.low) × (high ≡ task.high) × ((task.below ≡ 0) ⊎ (high ≤ low + bucket_limit))
IsMadeKind codes narrow tasks task (Branch end mask) = IsSplit codes narrow tasks task end mask

-- the task of a child
abbrev pub child_task : List ℕ → ℕ → Task → ℕ → Task
child_task codes width task prefix = record {
  below = task.below - 1;
  level = task.level - width;
  prefix = prefix;
  low = square_start codes (task.level - width) prefix;
  high = square_start codes (task.level - width) (prefix + 1);
}

-- the task of a child was put after the others where it holds a place, and its digit into the mask
pub record IsPushed (child : Task) (digit mask now : ℕ) (old new : List Task) : Type 0 where
  pub held : child.low < child.high → (new ≡ old ++ child ∷ []) × (now ≡ mask + 2 ^ digit)
  pub empty : child.high ≤ child.low → (new ≡ old) × (now ≡ mask)

-- the children before a digit were looked at
pub record IsSplitting (codes : List ℕ) (width : ℕ) (task : Task) (digit low mask : ℕ)
    (old now : List Task) : Type 0 where
  pub few : mask < 2 ^ digit
  pub told : map (λ d. 4 ^ width * task.prefix + d) (filter (λ d. bit_at mask d == 1) (range_with_len 0 digit))
      ≡ filter (is_held codes (task.level - width)) (range_with_len (4 ^ width * task.prefix) digit)
  pub pushed : now ≡ old ++ map (child_task codes width task)
      (filter (is_held codes (task.level - width)) (range_with_len (4 ^ width * task.prefix) digit))
  pub here : low ≡ square_start codes (task.level - width) (4 ^ width * task.prefix + digit)

-- the children of a square that hold a place came after the other tasks
pub record IsSplitInto (codes : List ℕ) (width : ℕ) (task : Task) (mask : ℕ) (old new : List Task) : Type 0 where
  pub few : mask < 2 ^ 16
  pub told : map (λ digit. 4 ^ width * task.prefix + digit) (mask_digits width mask)
      ≡ children codes (task.level - width) width task.prefix
  pub pushed : new ≡ old ++ map (child_task codes width task) (children codes (task.level - width) width task.prefix)

-- the kind of a node that is made of a task, and what it puts after the other tasks
abbrev pub IsMadeLink : List ℕ → ℕ → Task → NodeKind → List Task → List Task → Type 0
IsMadeLink codes narrow task (Bucket low high) old new =
    (low ≡ task.low) × (high ≡ task.high) × ((task.below ≡ 0) ⊎ (high ≤ low + bucket_limit)) × (new ≡ old)
IsMadeLink codes narrow task (Branch end mask) old new =
    (width : ℕ) × (1 ≤ task.below) × (levels_below narrow task.below ≡ width ∷ levels_below narrow (task.below - 1))
    × (end ≡ length new) × IsSplitInto codes width task mask old new

-- a node was made of the task at its place
pub record IsMade (codes : List ℕ) (boxes : List CellBox) (narrow : ℕ) (tasks : List Task) (areas : List CellBox)
    (links : List (ℕ × ℕ)) (number : ℕ) : Type 0 where
  pub task : Task
  pub area : CellBox
  pub link : ℕ × ℕ
  pub stands : slice_get tasks number ≡ Some task
  pub is : IsTask codes narrow task
  pub area_is : slice_get areas number ≡ Some area
  pub link_is : slice_get links number ≡ Some link
  pub covers : All (λ place. IsBoxInside (box_at boxes place) area) (run codes task.level task.prefix)
  pub kind : IsMadeKind codes narrow tasks task (link_kind link)

-- a list begins with another
pub record BeginsWith {A : Type 0} (front all : List A) : Type 0 where
  pub rest : List A
  pub is : all ≡ front ++ rest

-- how many squares are in those of tasks
abbrev pub task_squares : List ℕ → ℕ → List Task → ℕ
task_squares codes narrow tasks =
    sum_by (λ (task : Task). squares_in (λ _. true) codes (task_levels narrow task) task.prefix) tasks

-- nodes were made of the first tasks
pub record IsMaking (codes : List ℕ) (boxes : List CellBox) (narrow : ℕ) (first now : List Task) (areas : List CellBox)
    (links : List (ℕ × ℕ)) : Type 0 where
  pub tasks : All (IsTask codes narrow) now
  pub begin : BeginsWith first now
  pub same : length areas ≡ length links
  pub near : All IsBoxWithin areas
  pub from : (base : Cell) → All (IsFrom base) boxes → All (IsFrom base) areas
  pub made : (number : ℕ) → number < length links → IsMade codes boxes narrow now areas links number
