-- The blocks of a period, found one after another in leaf order.
use Rattle.std.proofs.Common.{◌≡◌, ℕ, ◌+◌, ◌<◌, ◌++◌, List, [], ◌∷◌, length, map, take, ap, sym, ◌∙◌, arith}
use Rattle.std.specs.Prelude.{slice_index}
use Rattle.std.specs.List.{range_with_len}
use Rattle.std.proofs.lemmas.List.{map-append, take_all, take_more}
use Rattle.snapshots.specs.Found.{AreFound, AreFoundBefore}
use Rattle.snapshots.specs.Sound.{IsSnapshot}
use Rattle.snapshots.specs.TrackTree.{morton_of_block}
use Rattle.snapshots.specs.View.{SnapshotView, block_at}
use Rattle.snapshots.specs.declared.anchored.Anchored.{Anchored}
use Rattle.snapshots.specs.declared.finding.FoundBlocks.{FoundBlocks}
use Rattle.snapshots.proofs.OnesLemmas.{map-range_more}

module _ (view : SnapshotView) (place : ℕ) (found : FoundBlocks) (are : AreFoundBefore view place found) where
  -- one more
  pub AreFoundBefore-more : (next : FoundBlocks) (rank code : ℕ) (block : Anchored) → place < length view.parts.perm
      → rank ≡ slice_index view.parts.perm place → block ≡ block_at view place → code ≡ morton_of_block view.frame (block_at view place)
      → next.by_leaf.items ≡ found.by_leaf.items ++ block ∷ [] → next.codes.items ≡ found.codes.items ++ code ∷ []
      → next.ranks.items ≡ found.ranks.items ++ rank ∷ [] → AreFoundBefore view (place + 1) next
  AreFoundBefore-more next rank code block within ranked its coded blocks codes ranks =
      let of_block : Anchored → ℕ = morton_of_block view.frame in
      let so_far : List Anchored = map (block_at view) (range_with_len 0 place) in
      let more = sym (map-range_more (block_at view) place) in
      record {
        blocks_are = blocks ∙ ap (λ xs. xs ++ block ∷ []) are.blocks_are ∙ ap (λ b. so_far ++ b ∷ []) its ∙ more;
        codes_are = codes ∙ ap (λ xs. xs ++ code ∷ []) are.codes_are
            ∙ ap (λ n. map of_block so_far ++ n ∷ []) coded
            ∙ sym (map-append of_block so_far (block_at view place ∷ [])) ∙ ap (map of_block) more;
        ranks_are = ranks ∙ ap (λ xs. xs ++ rank ∷ []) are.ranks_are ∙ ap (λ r. take place view.parts.perm ++ r ∷ []) ranked
            ∙ sym (take_more view.parts.perm place 0 within);
      }

  -- all of them
  pub AreFound-all : IsSnapshot view → place ≡ length view.parts.perm → AreFound view found
  AreFound-all is last = record {
    snapshot = is;
    blocks_are = are.blocks_are ∙ ap (λ n. map (block_at view) (range_with_len 0 n)) last;
    codes_are = are.codes_are ∙ ap (λ n. map (morton_of_block view.frame) (map (block_at view) (range_with_len 0 n))) last;
    ranks_are = are.ranks_are ∙ take_all place view.parts.perm (omega (arith, last));
  }
