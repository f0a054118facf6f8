-- The tree that is built.
use Rattle.std.proofs.Common.{◌≡◌, ℕ, ◌+◌, ◌*◌, ◌^◌, ◌<◌, ◌≤◌, List, length, map, refl, sym}
use Rattle.std.proofs.Common.{arith, All, subst, lit<}
use Rattle.std.proofs.Math.Nat.{pow-le-pow_right}
use Rattle.track_types.specs.declared.cell_box.CellBox.{CellBox}
use Rattle.track_types.specs.declared.limit.TheConstants.{MAX_HEIGHT}
use Rattle.box_tree.specs.Held.{Nodes}
use Rattle.box_tree.specs.Levels.{digits, square_start}
use Rattle.box_tree.specs.Places.{ArePlaces}
use Rattle.box_tree.specs.Tree.{AreLevels, IsBoxTree, code_at, levels_below, places_with, box_tree_of}
use Rattle.k2_tree.specs.Morton.{IsBase}
use Rattle.track_types.specs.declared.cell.Cell.{Cell}
use Rattle.box_tree.specs.Building.{BeginsWith, IsMade, IsTask, IsTaskAt}
use Rattle.box_tree.specs.declared.task.Task.{Task}
use Rattle.box_tree.proofs.BuildingLemmas.{held-made}
use Rattle.box_tree.proofs.MakingLemmas.{stands-more}
use Rattle.box_tree.proofs.PlacesLemmas.{place_among-all, place_among-zero}

-- the task of the whole grid
pub root-task : (codes : List ℕ) (narrow height all : ℕ) → digits (levels_below narrow height) ≡ all → all ≤ MAX_HEIGHT
    → All (λ code. code < 4 ^ all) codes → 0 < length codes
    → IsTask codes narrow (record { below = height; level = all; prefix = 0; low = 0; high = length codes })
unfolding square_start
root-task codes narrow height all level few inside some =
    let none : 0 * 4 ^ all ≡ 0 = omega arith in
    let one : (0 + 1) * 4 ^ all ≡ 4 ^ all = omega arith in
    let most : 4 ^ all ≤ 4 ^ MAX_HEIGHT = pow-le-pow_right (lit< tt) few in
    record {
      level = level;
      deep = few;
      small = rw one most;
      places = record {
        low_is = rw (none, place_among-zero codes) refl;
        high_is = rw (one, place_among-all codes (4 ^ all) inside) refl;
      };
      some = some;
    }

-- nodes that were made of all tasks, beginning with the whole grid's, are a tree
pub tree-built : (base : Cell) (height narrow all : ℕ) (codes : List ℕ) (cells : List (ℕ × ℕ))
    (boxes areas : List CellBox)
    (links : List (ℕ × ℕ)) (first tasks : List Task)
    → IsBase base → AreLevels height narrow all → ArePlaces (places_with height narrow codes boxes)
    → map code_at cells ≡ codes
    → ((number : ℕ) → number < length tasks → IsMade codes boxes narrow tasks areas links number)
    → BeginsWith first tasks → (0 < length codes → IsTaskAt first height 0 0)
    → IsBoxTree all (box_tree_of base height narrow cells boxes areas links)
tree-built base height narrow all codes cells boxes areas links first tasks near levels are same made begins stands =
    let nodes : Nodes = record { areas = areas; links = links } in
    subst (λ cs. IsBoxTree all
    (record { base = base; narrow = narrow; places = places_with height narrow cs boxes; nodes = nodes }))
    (sym same)
    (record {
      grid = near;
      places_are = are;
      digits_are = levels.digits_are;
      few = levels.few;
      room = levels.room;
      held = λ some. held-made (places_with height narrow codes boxes) narrow tasks nodes made height 0 0
          (subst (λ (all : List Task). IsTaskAt all height 0 0) (sym begins.is)
          (stands-more first begins.rest height 0 0 (stands some)));
    })
