use Rattle.std.proofs.Common.{◌≡◌, length, ap, subst, sym, map, All, ◌∙◌}
use Rattle.std.proofs.lemmas.List.{length-map}
use Rattle.object_perm.specs.Permutation.{PermutesPlaces}
use Rattle.box_tree.specs.Boxes.{IsFrom}
use Rattle.snapshots.specs.Found.{ArePut}
use Rattle.snapshots.specs.Tracks.{track_box}
use Rattle.snapshots.specs.View.{all_blocks}
use Rattle.snapshots.proofs.ByObjectLemmas.{length-all_blocks, put-all}
use Rattle.snapshots.proofs.KeptLemmas.{length-by_leaf, tracks-from}
use Rattle.snapshots.proofs.SoundPartsLemmas.{AreSoundLogs-flawless}
use Rattle.snapshots.proofs.logs.judge_snapshot.Given.{Over}
use Rattle.snapshots.proofs.logs.judge_snapshot.Goals as goal
use Rattle.snapshots.proofs.logs.judge_snapshot.Goals.{After-deref-2, After-deref-4}

-- the places are those of the permutation
ranks : (g : Over) (c : After-deref-2 g) → c.deref-2.result.now ≡ c.args.snapshot.now.parts.perm
ranks g c = c.deref-2.ensures.value ∙ c.in_ok-found.ensures.found.ranks_are

pub reordered-requires : goal.reordered-requires
reordered-requires g c =
    let found = c.in_ok-found.ensures.found in
    let ranks = ranks g (goal.at.reordered-requires g c).After-deref-2 in
    record {
      places = subst PermutesPlaces (sym ranks) found.snapshot.sound.permutes;
      long = ap length (c.deref.ensures.value ∙ found.blocks_are) ∙ length-by_leaf c.args.snapshot.now ∙ sym (ap length ranks);
    }

pub judge_logs-requires-clause-blocks : goal.judge_logs-requires-clause-blocks
judge_logs-requires-clause-blocks g c =
    let view = c.args.snapshot.now in
    let found = c.in_ok-found.ensures.found in
    let ranks = ranks g (goal.at.judge_logs-requires-clause-blocks g c).After-deref-2 in
    let table = c.in_ok-blocks.blocks.items in
    c.deref-3.ensures.value ∙ put-all view found.snapshot table
    (subst (λ bs. ArePut view.parts.perm bs (length view.parts.perm) table) (c.deref.ensures.value ∙ found.blocks_are)
    (subst (λ ps. ArePut ps c.deref.result.now (length ps) table) ranks c.in_ok-blocks.ensures))

-- the areas are the boxes of the blocks' tracks
areas : (g : Over) (c : After-deref-4 g)
    → c.deref-4.result.now ≡ map (track_box c.args.rules.now) (all_blocks c.args.snapshot.now)
areas g c = c.deref-4.ensures.value ∙ c.in_ok-logs.ensures.areas

pub keep_tracks-requires : goal.keep_tracks-requires
keep_tracks-requires g c =
    let view = c.args.snapshot.now in
    let rules = c.args.rules.now in
    let found = c.in_ok-found.ensures.found in
    let areas = areas g (goal.at.keep_tracks-requires g c).After-deref-4 in
    record {
      found = found;
      long = ap length areas ∙ length-map (all_blocks view) (track_box rules) ∙ length-all_blocks view found.snapshot;
      from = subst (All (IsFrom view.frame.base)) (sym areas)
          (tracks-from view rules found.snapshot (AreSoundLogs-flawless rules view c.in_ok-logs.ensures.exact));
    }

pub returns-clause-tracks : goal.returns-clause-tracks
returns-clause-tracks g c =
    c.in_ok-tracks.ensures.tracks c.args.rules.now (areas g (goal.at.returns-clause-tracks g c).After-deref-4)
