-- The hits of a chart, object by object.
use Rattle.std.proofs.Common.{◌≡◌, ℕ, ℤ, List, length, Option, refl, sym, subst, ◌∙◌, arith}
use Rattle.std.specs.Prelude.{slice_index}
use Rattle.std.specs.List.{Contains, filter_map, flat_map, range_with_len}
use Rattle.std.specs.Option.{option_to_list}
use Rattle.std.proofs.lemmas.List.Elements.{Contains-get_or}
use Rattle.std.proofs.lemmas.Map.Keys.{sorted_from_strictly_increasing}
use Rattle.list_laws.proofs.KeyedLemmas.{member_of_range}
use Rattle.list_laws.proofs.MemberLemmas.{member_of_flat_map, member_of_map}
use Rattle.list_laws.proofs.OptionLemmas.{flat_map-options}
use Rattle.list_laws.proofs.RangeLemmas.{flat_map-places}
use Rattle.track_types.specs.ByFilter.{hits_of}
use Rattle.track_types.specs.declared.hit.Hit.{Hit}
use Rattle.track_types.specs.declared.parts.Parts.{Parts}
use Rattle.track_types.specs.declared.region.Region.{Region}
use Rattle.track_types.specs.declared.row.Row.{Row}
use Rattle.track_types.specs.declared.stop.Stop.{Stop}
use Rattle.snapshots.specs.Parts.{chart_in, numbers_in, row_of, rows_in, stops_in}
use Rattle.snapshots.specs.SoundParts.{IsValid}
use Rattle.object_track.proofs.TableLemmas.{IsTable-chart_in}
use Rattle.interval_search.specs.FirstHits.{first_hit, hit_in}
use Rattle.interval_search.proofs.HitLemmas.{hits_of-objects}

module _ (parts : Parts) (valid : IsValid parts) (region : Region) (from to : ℤ) where
  -- each row is one of an object's
  object-listed : (row : Row) → Contains (chart_in parts).rows row → Contains parts.objects row.object
  unfolding chart_in rows_in
  object-listed row inside =
      let part = member_of_flat_map (rows_in parts) (range_with_len 0 (length parts.objects)) row inside in
      let within = member_of_range 0 (length parts.objects) part.0 part.1 in
      let stops : List Stop = flat_map (stops_in parts part.0) (numbers_in parts.frame) in
      let stop = member_of_map (row_of (slice_index parts.objects part.0)) stops row part.2 in
      subst (λ (r : Row). Contains parts.objects r.object) stop.2
      (Contains-get_or parts.objects part.0 0 (omega (arith, within.1)))

  -- the hits of the chart are those of its objects, place by place
  pub hits-listed : hits_of (chart_in parts).rows from to region
      ≡ filter_map (first_hit parts from to region) (range_with_len 0 (length parts.objects))
  hits-listed =
      let hit : ℕ → Option Hit = hit_in (chart_in parts).rows from to region in
      hits_of-objects (chart_in parts).rows (IsTable-chart_in parts valid).ascending from to region parts.objects
      (sorted_from_strictly_increasing parts.objects valid.shaped.objects) object-listed
      ∙ sym (flat_map-options (λ object. option_to_list (hit object)) hit (λ object. refl) parts.objects)
      ∙ sym (flat_map-places (λ object. option_to_list (hit object)) parts.objects)
      ∙ flat_map-options (λ place. option_to_list (first_hit parts from to region place)) (first_hit parts from to region)
      (λ place. refl) (range_with_len 0 (length parts.objects))
