use Rattle.std.proofs.Common.{◌≡◌, to_z, of_z, w64, refl, arith, rules}
use Rattle.std.specs.Prelude.{not}
use Rattle.std.proofs.lemmas.Fn.{filter_same}
use Rattle.std.proofs.lemmas.Int.{ints}
use Rattle.std.proofs.lemmas.List.Sorted.{answers_always}
use Rattle.track_types.specs.ByFilter.{sighting_of, sightings_of}
use Rattle.track_types.specs.Region.{in_region}
use Rattle.track_types.specs.declared.region.Region.{Region}
use Rattle.track_types.specs.declared.sighting.Sighting.{Sighting}
use Rattle.track_types.proofs.AskedLemmas.{IsRegionWithin-asked}
use Rattle.live_tail.specs.Join.{rows_of_tail}
use Rattle.live_tail.specs.SmallRows.{rows_in}
use Rattle.live_tail.proofs.InstantLemmas.{found-sorted, has_object}
use Rattle.live_tail.proofs.slice.slice.Goals as goal

pub push_seen-requires-clause-region : goal.push_seen-requires-clause-region
push_seen-requires-clause-region g c = IsRegionWithin-asked c.args.region.now c.requires.region

pub returns-clause-ok : goal.returns-clause-ok
unfolding sightings_of
returns-clause-ok g c =
    let region : Region = c.args.region.now in
    let same : to_z w64 (of_z w64 c.args.instant) ≡ c.args.instant = omega (arith, ints) in
    let own = rw same at c.rows_at-own.ensures.value in
    let kept = filter_same _ (λ (sighting : Sighting). not (has_object (rows_in c.rows_at-own.result) sighting.object)) _
    (λ x b f k. search rules) c.in_ok-found.found.items c.retain.new.self.items c.retain.ensures.filtered in
    let pushed = rw (kept, c.in_ok-found.ensures.ok, same, own) at c.in_ok-push_seen.ensures in
    found-sorted c.args.instant sighting_of (λ (sighting : Sighting). sighting.object) (λ row. refl)
    (λ row. in_region region row.cell) (g.A.Answerer.chart c.args.answerer).rows (rows_of_tail c.args.tail.now)
    c.facts.ensures.table.ascending (rw c.rows-own.ensures.value at c.rows-own.ensures.ascending)
    c.sort_unstable_by_key.new.self.items (rw pushed at c.sort_unstable_by_key.ensures.permutation)
    (c.sort_unstable_by_key.ensures.sorted (λ (sighting : Sighting). sighting.object) (answers_always _ _ _ (λ f a r g h. search rules)))
