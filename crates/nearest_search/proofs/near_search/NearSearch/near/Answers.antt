use Rattle.std.proofs.Common.{◌≡◌, ℕ, sym, ap, subst, ◌∙◌, None, Some}
use Rattle.std.specs.Prelude.{slice_index}
use Rattle.std.proofs.lemmas.Option.{get_or_from_slice_get}
use Rattle.track_types.specs.Region.{squared_distance}
use Rattle.track_types.specs.declared.cell.Cell.{Cell}
use Rattle.track_types.specs.declared.near.Near.{Near}
use Rattle.snapshots.specs.Parts.{snapshot_in}
use Rattle.snapshots.specs.Sound.{IsBlock}
use Rattle.object_track.proofs.BlockLemmas.{block-known}
use Rattle.object_track.proofs.TableLemmas.{IsCellWithin-asked}
use Rattle.nearest_search.specs.Found.{near_in, near_with}
use Rattle.nearest_search.specs.Seeking.{quest_of}
use Rattle.nearest_search.proofs.ElementLemmas.{kept-block}
use Rattle.nearest_search.proofs.FoundLemmas.{near-made}
use Rattle.nearest_search.proofs.near_search.NearSearch.near.Goals as goal

-- an object by its number, its cell and its distance
abbrev near_by : ℕ → Cell → ℕ → Near
near_by object found far = record { object = object; cell = found; dist2 = far }

pub cell_of-requires-clause-block : goal.cell_of-requires-clause-block
cell_of-requires-clause-block g c =
    let query = c.args.self.now in
    subst (IsBlock (snapshot_in query.stores.now query.period)) (sym c.block-block.ensures.value)
    (kept-block (quest_of query) c.requires.search.is c.args.place c.requires.place)

pub returns-in_err-found-clause-value : goal.returns-in_err-found-clause-value
returns-in_err-found-clause-value g c =
    let query = c.args.self.now in
    let is = c.requires.search.is in
    c.from_residual.ensures
    ∙ sym (ap (near_in query.stores.now query.period query.instant query.vantage.cell) (sym c.block-block.ensures.value)
    ∙ near-made query.stores.now is.valid query.period is.within query.instant query.vantage.cell c.block-block.result
    None c.in_err-found.ensures.value)

pub object_at-requires : goal.object_at-requires
object_at-requires g c =
    let query = c.args.self.now in
    let is = c.requires.search.is in
    block-known query.stores.now is.valid query.period is.within c.block-block.result
    (subst (IsBlock (snapshot_in query.stores.now query.period)) (sym c.block-block.ensures.value)
    (kept-block (quest_of query) is c.args.place c.requires.place))

pub dist2-requires-clause-first : goal.dist2-requires-clause-first
dist2-requires-clause-first g c = IsCellWithin-asked c.args.self.now.vantage.cell c.requires.search.is.asked

pub returns-clause-value : goal.returns-clause-value
returns-clause-value g c =
    let query = c.args.self.now in
    let is = c.requires.search.is in
    let objects = query.stores.now.objects in
    let index : ℕ = c.block-block.result.index in
    let found : Cell = c.in_ok-found.found in
    let own : slice_index objects index ≡ c.object_at.result =
    get_or_from_slice_get objects index c.object_at.result 0 c.object_at.ensures.value in
    let far : c.dist2.result ≡ squared_distance query.vantage.cell found = c.dist2.ensures in
    sym (ap (near_in query.stores.now query.period query.instant query.vantage.cell) (sym c.block-block.ensures.value)
    ∙ near-made query.stores.now is.valid query.period is.within query.instant query.vantage.cell c.block-block.result
    (Some found) c.in_ok-found.ensures.value
    ∙ ap (λ (o : ℕ). Some (near_with query.vantage.cell o found)) own
    ∙ ap (λ (d : ℕ). Some (near_by c.object_at.result found d)) (sym far))
