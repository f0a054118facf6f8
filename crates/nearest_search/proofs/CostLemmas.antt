-- What a search reads.
use Rattle.std.proofs.Common.{◌≡◌, ℕ, ◌+◌, ◌*◌, ◌≤◌, Bool, true, List, filter, All, Some, sym, ◌∙◌, ap, arith}
use Rattle.std.proofs.Common.{mul-le-mul_right}
use Rattle.std.specs.Prelude.{if◌then◌else◌}
use Rattle.std.specs.List.{sum_by}
use Rattle.list_laws.proofs.FilterLemmas.{filter-all, sum_by-filter, sum_by_if}
use Rattle.list_laws.proofs.FlatLemmas.{sum_by-map}
use Rattle.list_laws.proofs.SumLemmas.{sum_by-each}
use Rattle.track_types.specs.declared.cell_box.CellBox.{CellBox}
use Rattle.box_tree.specs.Cost.{place_reads, opened_square_reads}
use Rattle.box_tree.specs.Places.{all_places, cell_passes, place_worth, held_square_count}
use Rattle.box_tree.specs.Tree.{TreeView}
use Rattle.snapshots.specs.Cost.{block_reads, record_reads}
use Rattle.snapshots.specs.Cost.{square_reads}
use Rattle.snapshots.specs.IndexCost.{seek_cost}
use Rattle.snapshots.specs.Objects.{WeighSame}
use Rattle.snapshots.specs.Parts.{rules_in, snapshot_in}
use Rattle.snapshots.specs.TrackWalk.{block_kept}
use Rattle.snapshots.specs.Tracks.{blocks_by_leaf, cell_box}
use Rattle.snapshots.specs.View.{SnapshotView, all_blocks}
use Rattle.snapshots.specs.declared.anchored.Anchored.{Anchored}
use Rattle.snapshots.proofs.LeafOrderLemmas.{by_leaf-weighs}
use Rattle.snapshots.proofs.TracksLemmas.{squares_pass, tested}
use Rattle.nearest_search.specs.Cost.{is_near_enough, near_cost, period_near_cost}
use Rattle.nearest_search.specs.Seeking.{Quest, IsQuest, near_squares, seek_reads_at, quest_tree}
use Rattle.nearest_search.proofs.ElementLemmas.{snap}

module _ (quest : Quest) (is : IsQuest quest) (count : ℕ) where
  abbrev view : SnapshotView
  view = snapshot_in quest.parts quest.number

  abbrev tree : TreeView
  tree = quest_tree quest

  abbrev enough : CellBox → Bool
  enough = is_near_enough quest.parts count quest.number quest.instant quest.cell

  abbrev pass : ℕ → Bool
  pass = cell_passes (near_squares quest count) tree.places

  abbrev places : List ℕ
  places = all_places tree.places

  -- a sum over what passes
  sum-passing : (f : ℕ → ℕ) (xs : List ℕ) → All (λ place. pass place ≡ true) xs
      → sum_by (λ place. if pass place then f place else 0) xs ≡ sum_by f xs
  sum-passing f xs all = sym (sum_by-filter f pass xs) ∙ ap (sum_by f) (filter-all pass xs all)

  -- the places that pass are the blocks that are near enough
  near-blocks : (f : Anchored → ℕ) → sum_by (λ place. f (block_kept quest.kept place)) (filter pass places)
      ≡ sum_by f (filter (λ (block : Anchored). enough (cell_box block.cell)) (all_blocks view))
  unfolding WeighSame
  near-blocks f =
      let near : Anchored → Bool = λ block. enough (cell_box block.cell) in
      sym (sum_by-map f (block_kept quest.kept) (filter pass places))
      ∙ ap (sum_by f) (tested view (snap quest is) (rules_in quest.parts) quest.kept is.kept pass near
      (λ k block at. ap enough at.area))
      ∙ sum_by-filter f near (blocks_by_leaf view)
      ∙ by_leaf-weighs view (snap quest is) (λ block. if near block then f block else 0)
      ∙ sym (sum_by-filter f near (all_blocks view))

  -- squares and places that are near enough pay for those that were sought
  pub paid-by : (sought : List ℕ) → All (λ place. pass place ≡ true) sought
      → ((weight : ℕ → ℕ) → sum_by weight sought ≤ sum_by weight places)
      → opened_square_reads * held_square_count (near_squares quest count) tree.places
      + sum_by (place_worth (near_squares quest count) tree.places) places + sum_by (seek_reads_at quest) sought
      ≤ period_near_cost quest.parts count quest.number quest.instant quest.cell
  unfolding period_near_cost
  paid-by sought all fewer =
      let kept : List ℕ = filter pass places in
      let log : ℕ → ℕ = λ place. seek_cost quest.parts (Some (block_kept quest.kept place)) in
      let reads : ℕ → ℕ = seek_reads_at quest in
      let squares = squares_pass view (snap quest is) (rules_in quest.parts) quest.kept is.kept enough (λ _. true) in
      let wide = mul-le-mul_right (held_square_count (near_squares quest count) tree.places) (square_reads-le tt) in
      omega (
        arith,
        wide,
        ap (λ n. square_reads * n) squares,
        fewer (λ place. if pass place then reads place else 0),
        sum-passing reads sought all,
        sum_by-filter reads pass places,
        sum_by_if place_reads pass places,
        sum_by-each log record_reads kept,
        sum_by-each log block_reads kept,
        near-blocks (near_cost quest.parts),
      )
    where
      square_reads-le : Unit {0} → opened_square_reads ≤ square_reads
      square_reads-le any = omega arith
