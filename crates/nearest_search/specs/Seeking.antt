-- What a search keeps: what waits, what was sought, and the nearest so far.
use Rattle.std.specs.Prelude.{◌≡◌, ℕ, ◌+◌, ◌-◌, ◌*◌, ◌<◌, ◌≤◌, ℤ, Bool, true, List, [], ◌∷◌, length, take, slice_index}
use Rattle.std.specs.Prelude.{All, IfSome, Option, Some}
use Rattle.std.specs.List.{filter_map, sum_by}
use Rattle.std.specs.List.Sorted.{IsPermutation}
use Rattle.list_laws.specs.Ordered.{ordered}
use Rattle.track_types.specs.ByFilter.{near_order}
use Rattle.track_types.specs.Frame.{periods_of}
use Rattle.track_types.specs.Near.{IsCellAsked}
use Rattle.track_types.specs.declared.cell.Cell.{Cell}
use Rattle.track_types.specs.declared.near.Near.{Near}
use Rattle.track_types.specs.declared.parts.Parts.{Parts}
use Rattle.k2_tree.specs.Areas.{area_at}
use Rattle.k2_tree.specs.Squares.{Node, node}
use Rattle.box_tree.specs.Cost.{box_reads, opened_square_reads}
use Rattle.box_tree.specs.Places.{all_places, cell_passes, place_worth, square_places, held_square_count, square_worth}
use Rattle.box_tree.specs.Tests.{squares_at}
use Rattle.box_tree.specs.Tree.{IsNodeOf, TreeView, node_at, node_square}
use Rattle.box_tree.specs.Walk.{turns_in}
use Rattle.snapshots.specs.Cost.{record_reads}
use Rattle.snapshots.specs.IndexCost.{seek_cost}
use Rattle.snapshots.specs.Parts.{period_in, rules_in, snapshot_in}
use Rattle.snapshots.specs.SoundParts.{IsValid}
use Rattle.snapshots.specs.Speed.{reach_of}
use Rattle.snapshots.specs.TrackTree.{AreKept}
use Rattle.snapshots.specs.TrackWalk.{block_kept}
use Rattle.snapshots.specs.Tracks.{blocks_by_leaf}
use Rattle.snapshots.specs.declared.track_tree.TrackTree.{TrackTree}
use Rattle.nearest_search.specs.Cost.{box_dist2, is_near_enough}
use Rattle.nearest_search.specs.Found.{near_in}
use Rattle.nearest_search.specs.Kept.{ClosestView}
use Rattle.nearest_search.specs.Vantage.{width_in_64_bits}
use Rattle.nearest_search.specs.declared.near_search.NearSearch.{NearSearch}
use Rattle.nearest_search.specs.declared.waiting.Element.{Element}
use Rattle.nearest_search.specs.declared.waiting.Waiting.{Waiting}
use Rattle.nearest_search.specs.declared.waiting.Waiting.TheVariants.{Node as AtNode, Place as AtPlace}

-- what is asked: the objects near a cell at an instant of a period, of whose blocks this is kept
pub record Quest : Type 0 where
  pub parts : Parts
  pub number : ℕ
  pub kept : TrackTree
  pub instant : ℤ
  pub cell : Cell

-- what a search asks
abbrev pub quest_of : NearSearch → Quest
quest_of query = record {
  parts = query.stores.now;
  number = query.period;
  kept = query.kept.now;
  instant = query.instant;
  cell = query.vantage.cell;
}

-- the blocks are those of the period, and the cell may be asked for
pub record IsQuest (quest : Quest) : Type 0 where
  pub valid : IsValid quest.parts
  pub within : quest.number < periods_of quest.parts.frame
  pub when : period_in quest.parts.frame quest.instant ≡ Some quest.number
  pub kept : AreKept quest.parts.frame (rules_in quest.parts) (blocks_by_leaf (snapshot_in quest.parts quest.number))
      quest.kept
  pub asked : IsCellAsked quest.cell

-- a search asks such a thing, and knows how far an object gets
pub record IsSearch (query : NearSearch) : Type 0 where
  pub is : IsQuest (quest_of query)
  pub number : query.kept.now.number.value ≡ query.period
  pub width : query.vantage.width ≡ width_in_64_bits query.stores.now query.period query.instant

-- a sum over what waits
abbrev pub sum_waiting : (Waiting → ℕ) → List Element → ℕ
sum_waiting f elements = sum_by (λ (e : Element). f e.waiting) elements

module _ (quest : Quest) where
  -- the tree that is searched
  abbrev pub quest_tree : TreeView
  quest_tree = quest.kept.tree

  -- how near the object of the block at a place is
  abbrev pub near_at : ℕ → Option Near
  near_at place = near_in quest.parts quest.number quest.instant quest.cell (block_kept quest.kept place)

  -- the places of what waits: those below a node, or the one
  abbrev pub places_in : Waiting → List ℕ
  places_in (AtNode ref) = square_places quest_tree.places (node_square quest_tree.narrow ref)
  places_in (AtPlace place) = place ∷ []

  -- the square of what waits: a node's, or the cell of a place
  abbrev pub square_in : Waiting → Node
  square_in (AtNode ref) = node_at ref
  square_in (AtPlace place) = node 0 (slice_index quest_tree.places.codes place)

  -- what waits is one of the tree's
  abbrev pub IsOfTree : Waiting → Type 0
  IsOfTree (AtNode ref) = IsNodeOf quest_tree ref
  IsOfTree (AtPlace place) = place < length quest_tree.places.codes

  -- the reads that what waits is still worth: a node's box and those of a place were read before
  abbrev pub worth_left : (Node → Bool) → Waiting → ℕ
  worth_left test (AtNode ref) = square_worth test quest_tree.places (node_square quest_tree.narrow ref) - box_reads
  worth_left test (AtPlace place) = 0

  -- how many elements may be taken that come of what waits
  abbrev pub waiting_turns : Waiting → ℕ
  waiting_turns (AtNode ref) = turns_in quest_tree.places (node_square quest_tree.narrow ref)
      + length (square_places quest_tree.places (node_square quest_tree.narrow ref))
  waiting_turns (AtPlace place) = 1

  -- an element waits at no more than the squared distance of each object in it, and at no less than that of the reach of
  -- its square
  pub record IsElement (element : Element) : Type 0 where
    pub of : IsOfTree element.waiting
    pub near : All (λ place. IfSome (near_at place) (λ (near : Near). element.key ≤ near.dist2)) (places_in element.waiting)
    pub reach : box_dist2 quest.cell (reach_of quest.parts quest.number quest.instant
        (area_at quest_tree.base (square_in element.waiting))) ≤ element.key

  -- an element was put among what waits
  pub record IsQueued (waiting : Waiting) (old new : List Element) : Type 0 where
    pub element : Element
    pub is : element.waiting ≡ waiting
    pub its : IsElement element
    pub moved : IsPermutation (element ∷ old) new

  -- some elements were put among what waits
  pub record AreAdded (added : List Waiting) (old new : List Element) : Type 0 where
    pub sums : (f : Waiting → ℕ) → sum_waiting f new ≡ sum_by f added + sum_waiting f old
    pub each : All IsElement old → All IsElement new

  -- the reads of a block that is sought, by its place
  abbrev pub seek_reads_at : ℕ → ℕ
  seek_reads_at place = record_reads + seek_cost quest.parts (Some (block_kept quest.kept place))

  -- what a node holds was put among what waits, and the node has paid for that
  pub record OpensWaiting (taken : Waiting) (old new : List Element) : Type 0 where
    pub each : All IsElement old → All IsElement new
    pub places : (weight : ℕ → ℕ) → sum_waiting (λ w. sum_by weight (places_in w)) new
        ≡ sum_by weight (places_in taken) + sum_waiting (λ w. sum_by weight (places_in w)) old
    pub turns : sum_waiting waiting_turns new < waiting_turns taken + sum_waiting waiting_turns old

  -- the reads by which it is opened
  abbrev pub IsPaid : Waiting → List Element → List Element → ℕ → ℕ → Type 0
  IsPaid taken old new begun steps = (test : Node → Bool) → test (square_in taken) ≡ true
      → steps + sum_waiting (worth_left test) new ≤ begun + worth_left test taken + sum_waiting (worth_left test) old

  -- the squares whose reach is no farther than the last of so many answers
  abbrev pub near_squares : ℕ → Node → Bool
  near_squares count = squares_at quest_tree.base (is_near_enough quest.parts count quest.number quest.instant quest.cell)

  -- What is known while nodes and places are taken, the one with the least key first. Each place was sought, waits, or
  -- lies below one node that waits. The nearest of what was sought are kept. What was taken is near enough, so that the
  -- squares which are near enough have paid for it.
  pub record AreSeeking (count before : ℕ) (elements : List Element) (closest : ClosestView) (steps : ℕ) : Type 0 where
    pub sought : List ℕ
    pub known : All (λ place. place < length quest_tree.places.codes) sought
    pub wanted : closest.wanted ≡ count
    pub nears : closest.nears ≡ take count (ordered near_order (filter_map near_at sought))
    pub each : All IsElement elements
    pub parted : (weight : ℕ → ℕ) → sum_by weight sought + sum_waiting (λ w. sum_by weight (places_in w)) elements
        ≡ sum_by weight (all_places quest_tree.places)
    pub enough : All (λ place. cell_passes (near_squares count) quest_tree.places place ≡ true) sought
    pub cost : steps + sum_waiting (worth_left (near_squares count)) elements ≤ before
        + (opened_square_reads * held_square_count (near_squares count) quest_tree.places
        + sum_by (place_worth (near_squares count) quest_tree.places) (all_places quest_tree.places))
        + sum_by seek_reads_at sought
