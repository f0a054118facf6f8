-- The paths of an index: each is over the whole index, and their rows are the index's, from an object on.
use Rattle.std.proofs.Common.{◌≡◌, ℕ, ◌<◌, List, length, get_or, map, refl, ap, sym, ◌∙◌, arith}
use Rattle.std.specs.Prelude.{slice_index}
use Rattle.list_laws.proofs.FilterLemmas.{filter-all}
use Rattle.list_laws.proofs.KeyedLemmas.{flat_map_alike, member_of_range}
use Rattle.track_types.specs.ByFilter.{path_of}
use Rattle.track_types.specs.Frame.{periods_of}
use Rattle.track_types.specs.Region.{is_between}
use Rattle.track_types.specs.declared.parts.Parts.{Parts}
use Rattle.track_types.specs.declared.stop.Stop.{Stop}
use Rattle.track_types.proofs.RegionLemmas.{is_between-from}
use Rattle.rule_store.specs.Log.{in_window}
use Rattle.snapshots.specs.Parts.{chart_in, last_in, numbers_in, row_of, rows_in, stops_in}
use Rattle.snapshots.specs.SoundParts.{IsValid}
use Rattle.track_index.specs.Facts.{facts_of}
use Rattle.track_types.specs.declared.facts.Facts.{Facts}
use Rattle.object_track.proofs.ChartLemmas.{path_of-known}
use Rattle.object_track.proofs.MetLemmas.{period-inside}
use Rattle.object_track.proofs.StopsLemmas.{All-stops_in}
use Rattle.object_track.proofs.TableLemmas.{index_in-own}

module _ (parts : Parts) (valid : IsValid parts) where
  -- all stops of a period are from the first instant to the last
  in_window-whole : (index number : ℕ) → number < periods_of parts.frame
      → in_window parts.frame.first (last_in parts.frame) (stops_in parts index number) ≡ stops_in parts index number
  unfolding in_window
  in_window-whole index number within =
      let stops : List Stop = stops_in parts index number in
      filter-all (λ stop. is_between parts.frame.first (last_in parts.frame) stop.instant) stops (λ k d below.
      let its = All-stops_in parts valid index number within k d below in
      let inside = period-inside parts.frame valid.shaped.header number (get_or stops k d).instant within its.above its.below in
      is_between-from parts.frame.first (last_in parts.frame) (get_or stops k d).instant inside.0 inside.1)

  -- as rows they are those of the object
  path_of-whole : (place : ℕ) → place < length parts.objects
      → map (row_of (slice_index parts.objects place))
      (path_of (chart_in parts).rows (slice_index parts.objects place) parts.frame.first (last_in parts.frame))
      ≡ rows_in parts place
  unfolding rows_in
  path_of-whole place within =
      let object : ℕ = slice_index parts.objects place in
      ap (map (row_of object))
      (path_of-known parts valid object place (index_in-own parts valid place within) parts.frame.first (last_in parts.frame)
      ∙ flat_map_alike (λ number. in_window parts.frame.first (last_in parts.frame) (stops_in parts place number))
      (stops_in parts place) (numbers_in parts.frame) (λ number among.
      let inside = member_of_range 0 (periods_of parts.frame) number among in
      in_window-whole place number (omega (arith, inside.1))))

  -- those that are drawn for an object are its rows
  pub drawn-rows : (place : ℕ) → place < length parts.objects → (object : ℕ) → object ≡ slice_index parts.objects place
      → (stops : List Stop) → stops ≡ path_of (chart_in parts).rows object parts.frame.first (last_in parts.frame)
      → rows_in parts place ≡ map (row_of object) stops
  drawn-rows place within object is stops are = sym (path_of-whole place within) ∙ sym (rw (are, is) refl)

-- the facts tell the first instant and the last
pub facts-first : (parts : Parts) (facts : Facts) → facts ≡ facts_of parts → facts.first ≡ parts.frame.first
unfolding facts_of
facts-first parts facts is = ap (λ (f : Facts). f.first) is

pub facts-last : (parts : Parts) (facts : Facts) → facts ≡ facts_of parts → facts.last ≡ last_in parts.frame
unfolding facts_of
facts-last parts facts is = ap (λ (f : Facts). f.last) is
