-- Nodes, and what they hold.
use Rattle.std.specs.Prelude.{◌≡◌, ℕ, ◌+◌, ◌*◌, ◌^◌, ◌<◌, ◌≤◌, ◌==◌, List, [], ◌∷◌, length, map}
use Rattle.std.specs.Prelude.{filter, All}
use Rattle.std.specs.Prelude.{slice_get, Some}
use Rattle.std.specs.Int.{bit_at}
use Rattle.std.specs.List.{range_with_len}
use Rattle.track_types.specs.declared.cell_box.CellBox.{CellBox}
use Rattle.k2_tree.specs.Areas.{IsBoxInside}
use Rattle.box_tree.specs.NodeKinds.{link_kind}
use Rattle.box_tree.specs.Levels.{children, digits, square_start, run}
use Rattle.box_tree.specs.Places.{Places, box_at}
use Rattle.box_tree.specs.Cost.{bucket_limit}
use Rattle.box_tree.specs.declared.node_kind.NodeKind.{NodeKind}
use Rattle.box_tree.specs.declared.node_kind.NodeKind.TheVariants.{Bucket, Branch}

-- nodes: their boxes and their links
pub record Nodes : Type 0 where
  pub areas : List CellBox
  pub links : List (ℕ × ℕ)

-- the digits of a mask
unfoldable pub mask_digits : ℕ → ℕ → List ℕ
mask_digits level mask = filter (λ digit. bit_at mask digit == 1) (range_with_len 0 (4 ^ level))

-- a node of the square has these places
pub record IsBucket (codes : List ℕ) (n prefix low high : ℕ) : Type 0 where
  pub low_is : low ≡ square_start codes n prefix
  pub high_is : high ≡ square_start codes n (prefix + 1)

-- nodes one after another are of these prefixes
unfoldable pub Stand : (ℕ → ℕ → Type 0) → ℕ → List ℕ → Type 0
Stand held first [] = Unit {0}
Stand held first (prefix ∷ prefixes) = held prefix first × Stand held (first + 1) prefixes

-- a node is a branch, and its children are those that hold a number, one node after another
pub record IsBranch (codes : List ℕ) (n level prefix end mask : ℕ) (held : ℕ → ℕ → Type 0) : Type 0 where
  pub first : ℕ
  pub few : mask < 2 ^ 16
  pub told : map (λ digit. 4 ^ level * prefix + digit) (mask_digits level mask) ≡ children codes n level prefix
  pub stand : first + length (mask_digits level mask) ≡ end
  pub each : Stand held first (children codes n level prefix)

-- a cell is always a bucket
abbrev pub IsLast : List ℕ → ℕ → NodeKind → Type 0
IsLast codes prefix (Bucket low high) = IsBucket codes 0 prefix low high
IsLast codes prefix (Branch end mask) = ⊥

-- another square is one where it has few places
abbrev pub IsUpper : List ℕ → ℕ → ℕ → ℕ → (ℕ → ℕ → Type 0) → NodeKind → Type 0
IsUpper codes n level prefix held (Bucket low high) =
    IsBucket codes (level + n) prefix low high × (high ≤ low + bucket_limit)
IsUpper codes n level prefix held (Branch end mask) = IsBranch codes n level prefix end mask held

-- a node stands, and its box has the boxes of all places of its square
pub record IsNode (places : Places) (nodes : Nodes) (n prefix number : ℕ) (IsKind : NodeKind → Type 0) : Type 0 where
  pub area : CellBox
  pub link : ℕ × ℕ
  pub area_is : slice_get nodes.areas number ≡ Some area
  pub link_is : slice_get nodes.links number ≡ Some link
  pub covers : All (λ place. IsBoxInside (box_at places.boxes place) area) (run places.codes n prefix)
  pub kind : IsKind (link_kind link)

-- what the kind of a node says of it, by descent on the levels below its square
unfoldable pub IsKindFor : Places → Nodes → List ℕ → ℕ → NodeKind → Type 0
IsKindFor places nodes [] prefix = IsLast places.codes prefix
IsKindFor places nodes (level ∷ levels) prefix =
    IsUpper places.codes (digits levels) level prefix
    (λ child number. IsNode places nodes (digits levels) child number (IsKindFor places nodes levels child))

-- a node holds the places of a square: it stands, its box has theirs, and its kind is right
abbrev pub Held : Places → Nodes → List ℕ → ℕ → ℕ → Type 0
Held places nodes levels prefix number =
    IsNode places nodes (digits levels) prefix number (IsKindFor places nodes levels prefix)
