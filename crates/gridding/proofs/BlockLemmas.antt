-- Rows in blocks: what one place more in an object's last block, and one block more at the end, make of the rows of each
-- object and of where its last block stands.
use Rattle.std.proofs.Common.{◌≡◌, ◌≢◌, ℕ, zero, suc, ◌+◌, ◌<◌, ◌≤◌, List, [], ◌∷◌, ◌++◌, Option, Some, None}
use Rattle.std.proofs.Common.{drop, filter, get_or, length, map, set, take, refl, sym, ap, ◌∙◌, subst, arith, inl, inr}
use Rattle.std.specs.Prelude.{◌==◌, ◌⊎◌, Bool, true, false, Result, Ok, Err, IfOk, nat_eq, slice_get}
use Rattle.std.specs.declared.alloc.AllocError.{AllocError}
use Rattle.std.specs.HashMap.{Updates, get}
use Rattle.std.specs.List.{zip}
use Rattle.std.proofs.lemmas.Bool.{cases_eq}
use Rattle.std.proofs.lemmas.Bool.Decides.{nat_tests}
use Rattle.std.proofs.lemmas.Grind.{flat_map-append}
use Rattle.std.proofs.lemmas.Option.{get_or_from_slice_get, slice_get_within}
use Rattle.std.proofs.lemmas.List.{append-nil, append_assoc, drop-append-le, get_or-map, get_or-set_other, get_or_append_left}
use Rattle.std.proofs.lemmas.List.{length-append, length-map, length-set, map-append, map-set, nil_from_length, set-get_or}
use Rattle.std.proofs.Math.Seq.{drop-append-add}
use Rattle.std.proofs.lemmas.List.Elements.{filter-append}
use Rattle.std.proofs.lemmas.Slice.Zip.{firsts-zip, get_or-zip, length-zip}
use Rattle.list_laws.proofs.SliceLemmas.{slice_get-append_add, slice_get-append_left}
use Rattle.list_laws.proofs.ZipLemmas.{zip-append, zip-set}
use Rattle.track_types.specs.declared.row.Row.{Row}
use Rattle.gridding.specs.Blocks.{IsLastOf, ObjectRun, filled_of, rows_of_runs, rows_with, runs_of, runs_with}
use Rattle.gridding.specs.PackedPlace.{packed_row}
use Rattle.gridding.specs.GriddedRows.{AreBlocksOf, HasAdded, HasKept, HasPut, HasRoom, IsApart, IsAway, IsFull, IsOneTooMany}
use Rattle.gridding.specs.declared.packed_place.PackedPlace.{PackedPlace}
use Rattle.gridding.specs.declared.track_blocks.TheConstants.{ROWS}
use Rattle.gridding.specs.declared.track_blocks.TrackBlocks.{TrackBlocks}
use Rattle.gridding.specs.declared.packed_place.Origin.{Origin}

-- the object of a run
abbrev owner : ObjectRun → ℕ
owner run = run.0

-- an object at the end stands there last
last_opened : (object : ℕ) (objects : List ℕ) → IsLastOf object (objects ++ (object ∷ [])) (Some (length objects))
last_opened object objects = (
  grind (arith, slice_get-append_add objects (object ∷ []) 0),
  grind (arith, drop-append-add objects (object ∷ []) 1),
)

-- and no other object stands elsewhere
last_before : (object opened : ℕ) (objects : List ℕ) (last : Option ℕ) → opened ≢ object →
    IsLastOf object objects last → IsLastOf object (objects ++ (opened ∷ [])) last
last_before object opened objects None differ none =
    grind (arith, nat_tests, filter-append (λ other. other == object) objects (opened ∷ []))
last_before object opened objects (Some place) differ (is, none) =
    grind (arith, nat_tests, slice_get_within, slice_get-append_left, drop-append-le, filter-append)

-- an object of which there is none stands nowhere
stands_nowhere : (object : ℕ) (objects : List ℕ) (place : ℕ) → filter (λ other. other == object) objects ≡ [] →
    slice_get objects place ≡ Some object → ⊥
stands_nowhere object [] place none is = omega (arith, slice_get_within [] place object is)
stands_nowhere object (other ∷ objects) zero none is =
    let same : other ≡ object = get_or_from_slice_get (other ∷ objects) 0 object object is in grind (arith, nat_tests)
stands_nowhere object (other ∷ objects) (suc place) none is = grind (arith, stands_nowhere object objects place (grind arith) is)

-- an object stands nowhere after its last place
place_le : (object : ℕ) (objects : List ℕ) (last place : ℕ) →
    filter (λ other. other == object) (drop (suc last) objects) ≡ [] → slice_get objects place ≡ Some object →
    place ≤ last
place_le object [] last place none is = absurd (omega (arith, slice_get_within [] place object is))
place_le object (other ∷ objects) last zero none is = omega arith
place_le object (other ∷ objects) zero (suc place) none is = absurd (stands_nowhere object objects place none is)
place_le object (other ∷ objects) (suc last) (suc place) none is =
    omega (arith, place_le object objects last place none is)

-- so that it has one last place
same_last : (object : ℕ) (objects : List ℕ) (a b : ℕ) → IsLastOf object objects (Some a) →
    IsLastOf object objects (Some b) → a ≡ b
same_last object objects a b at_a at_b =
    omega (arith, place_le object objects a b at_a.1 at_b.0, place_le object objects b a at_b.1 at_a.0)

module _ (origin : Origin) where
  -- the rows of an object in runs
  abbrev rows_in : ℕ → List ObjectRun → List Row
  rows_in object runs = rows_of_runs origin (runs_with object runs)

  -- of two lists of runs
  rows_in-append : (object : ℕ) (xs ys : List ObjectRun) → rows_in object (xs ++ ys) ≡ rows_in object xs ++ rows_in object ys
  rows_in-append object xs ys = grind (arith, nat_tests, filter-append, flat_map-append)

  -- of a run of one place
  rows_in-opened : (object : ℕ) (place : PackedPlace) (other : ℕ) →
      rows_in other ((object, place ∷ []) ∷ []) ≡ rows_with other (packed_row origin object place ∷ [])
  rows_in-opened object place other = grind arith

  -- where there is no run of an object
  rows_in-none : (object : ℕ) (runs : List ObjectRun) → filter (λ other. other == object) (map owner runs) ≡ [] →
      rows_in object runs ≡ []
  rows_in-none object [] none = refl
  rows_in-none object (run ∷ runs) none = grind (arith, rows_in-none object runs)

  -- of one place more in a run after which there is none of its object
  rows_in-put : (object : ℕ) (places : List PackedPlace) (place : PackedPlace) (other : ℕ) (runs : List ObjectRun) →
      filter (λ own. own == object) (map owner runs) ≡ [] →
      rows_in other ((object, places ++ (place ∷ [])) ∷ runs)
      ≡ rows_in other ((object, places) ∷ runs) ++ rows_with other (packed_row origin object place ∷ [])
  rows_in-put object places place other runs none = grind (arith, nat_tests, rows_in-none, map-append, append-nil)

  -- of one place more in an object's last run
  rows_in-pushed : (object last : ℕ) (places : List PackedPlace) (place : PackedPlace) (other : ℕ) (runs : List ObjectRun) →
      (d : ObjectRun) → IsLastOf object (map owner runs) (Some last) → get_or runs last d ≡ (object, places) →
      rows_in other (set runs last (object, places ++ (place ∷ [])))
      ≡ rows_in other runs ++ rows_with other (packed_row origin object place ∷ [])
  rows_in-pushed object last places place other [] d (is, none) here = cc
  rows_in-pushed object zero places place other (run ∷ runs) d (is, none) here =
      rw here (rows_in-put object places place other runs none)
  rows_in-pushed object (suc last) places place other (run ∷ runs) d (is, none) here =
      grind (arith, nat_tests, rows_in-pushed object last places place other runs d (is, none) here, rows_in-append, append_assoc)

-- each block has its filled places
filled_long : (rows : List Row) (tracks : TrackBlocks) → AreBlocksOf rows tracks →
    length (map filled_of (zip tracks.blocks.items tracks.lengths.items)) ≡ length tracks.objects.items
filled_long rows tracks blocks = grind (arith, nat_tests, length-map, length-zip)

-- a row more
module _ (rows : List Row) (old new : TrackBlocks) (object : ℕ) (place : PackedPlace) (blocks : AreBlocksOf rows old) (origin_stays : new.origin ≡ old.origin) where
  -- each object has the rows that it had, and this one if it is its own
  held_more : (other : ℕ) →
      rows_in old.origin other (runs_of new) ≡ rows_in old.origin other (runs_of old) ++ rows_with other (packed_row old.origin object place ∷ []) →
      rows_in new.origin other (runs_of new) ≡ rows_with other (rows ++ (packed_row old.origin object place ∷ []))
  unfolding runs_of
  held_more other more = grind (arith, nat_tests, filter-append)

  -- in the object's last block
  pub blocks_pushed : (last n : ℕ) (places pushed : List PackedPlace) →
      slice_get old.objects.items last ≡ Some object → n < ROWS →
      places ≡ get_or old.blocks.items last places → slice_get old.lengths.items last ≡ Some n →
      take (n + 1) pushed ≡ take n places ++ (place ∷ []) →
      new.blocks.items ≡ set old.blocks.items last pushed → new.objects ≡ old.objects →
      new.lengths.items ≡ set old.lengths.items last (n + 1) → new.last_of ≡ old.last_of →
      AreBlocksOf (rows ++ (packed_row old.origin object place ∷ [])) new
  unfolding runs_of
  blocks_pushed last n places pushed is below places_are length_is put blocks_are objects_stay lengths_are map_stays =
      let objects : List ℕ = old.objects.items in
      let n_is : get_or old.lengths.items last n ≡ n = get_or_from_slice_get old.lengths.items last n n length_is in
      let had_room : HasRoom old last = rw (get_or_from_slice_get old.lengths.items last n ROWS length_is) below in
      let is_last : IsLastOf object objects (Some last) = blocks.room object last is had_room in
      let pairs : List (List PackedPlace × ℕ) = zip old.blocks.items old.lengths.items in
      let filled : List (List PackedPlace) = map filled_of pairs in
      let long : length filled ≡ length objects = filled_long rows old blocks in
      let within : last < length objects = slice_get_within objects last object is_last.0 in
      let pair : get_or pairs last (places, n) ≡ (places, n) =
      get_or-zip old.blocks.items old.lengths.items last (places, n) (omega (arith, blocks.objects))
      (omega (arith, blocks.objects, blocks.lengths)) ∙ grind (arith, places_are, n_is) in
      let own : get_or objects last object ≡ object = get_or_from_slice_get objects last object object is_last.0 in
      let run : ObjectRun = (object, take n places) in
      let run_is : get_or (runs_of old) last run ≡ run =
      get_or-zip objects filled last run within (omega arith)
      ∙ grind (
        arith,
        own,
        get_or-map filled_of pairs last (places, n) (take n places) (omega (arith, long, length-map pairs filled_of)),
        ap filled_of pair,
      ) in
      let more : List PackedPlace = take n places ++ (place ∷ []) in
      let filled_now : map filled_of (zip new.blocks.items new.lengths.items) ≡ set filled last more =
      rw (blocks_are, lengths_are)
      (ap (map filled_of) (zip-set old.blocks.items old.lengths.items last pushed (n + 1))
      ∙ map-set filled_of pairs last (pushed, n + 1) ∙ ap (set filled last) put) in
      let made : runs_of new ≡ set (runs_of old) last (object, more) =
      rw (objects_stay, filled_now)
      (ap (λ all. zip all (set filled last more)) (sym (set-get_or objects last object) ∙ ap (set objects last) own)
      ∙ zip-set objects filled last object more) in
      let owners : map owner (runs_of old) ≡ objects = firsts-zip objects filled long in
      record {
        objects = rw (blocks_are, objects_stay, length-set) blocks.objects;
        lengths = rw (blocks_are, lengths_are, length-set old.blocks.items, length-set old.lengths.items)
            blocks.lengths;
        held = λ other. held_more other
            (ap (rows_in old.origin other) made
            ∙ rows_in-pushed old.origin object last (take n places) place other (runs_of old) run (rw owners is_last) run_is);
        last = λ other. rw (objects_stay, map_stays) (blocks.last other);
        room = λ other at stands room. rw objects_stay (elim (cases_eq at last) [
          | inl same ↦
              let one : object ≡ other =
              sym own ∙ get_or_from_slice_get objects last other object (rw (objects_stay, same) at stands) in
              subst (λ o. IsLastOf o objects (Some at)) one (rw same is_last)
          | inr differ ↦
              let stays = get_or-set_other old.lengths.items last at (n + 1) ROWS differ in
              blocks.room other at (rw objects_stay at stands) (rw (lengths_are, stays) at room)
        ]);
      }

  -- in a block at the end
  pub blocks_opened : (last : ℕ) (opened : List PackedPlace) → take 1 opened ≡ place ∷ [] →
      last ≡ length old.blocks.items → new.blocks.items ≡ old.blocks.items ++ (opened ∷ []) →
      new.objects.items ≡ old.objects.items ++ (object ∷ []) → new.lengths.items ≡ old.lengths.items ++ (1 ∷ []) →
      Updates nat_eq old.last_of new.last_of object (Some last) → IsFull object old →
      AreBlocksOf (rows ++ (packed_row old.origin object place ∷ [])) new
  unfolding runs_of
  blocks_opened last opened one place_is blocks_are objects_are lengths_are updates full =
      let objects : List ℕ = old.objects.items in
      let pairs : List (List PackedPlace × ℕ) = zip old.blocks.items old.lengths.items in
      let run : ObjectRun = (object, place ∷ []) in
      let filled_now : map filled_of (zip new.blocks.items new.lengths.items)
      ≡ map filled_of pairs ++ ((place ∷ []) ∷ []) =
      rw (blocks_are, lengths_are)
      (ap (map filled_of) (zip-append old.blocks.items (opened ∷ []) old.lengths.items (1 ∷ []) (sym blocks.lengths))
      ∙ map-append filled_of pairs ((opened, 1) ∷ []) ∙ ap (λ last. map filled_of pairs ++ (last ∷ [])) one) in
      let made : runs_of new ≡ runs_of old ++ (run ∷ []) =
      rw (objects_are, filled_now)
      (zip-append objects (object ∷ []) (map filled_of pairs) ((place ∷ []) ∷ []) (sym (filled_long rows old blocks))) in
      let at_last : IsLastOf object new.objects.items (Some last) =
      rw (objects_are, place_is, ← blocks.objects) (last_opened object objects) in
      let one_more = length-append old.blocks.items (opened ∷ []) in
      record {
        objects = grind (arith, blocks.objects, blocks_are, objects_are, one_more, length-append objects (object ∷ []));
        lengths = grind (arith, blocks.lengths, blocks_are, lengths_are, one_more, length-append old.lengths.items (1 ∷ []));
        held = λ other.
            held_more other
            (ap (rows_in old.origin other) made ∙ rows_in-append old.origin other (runs_of old) (run ∷ [])
            ∙ ap (λ end. rows_in old.origin other (runs_of old) ++ end) (rows_in-opened old.origin object place other));
        last = λ other. elim (cases_eq object other) [
          | inl is ↦ subst (λ o. IsLastOf o new.objects.items (get nat_eq new.last_of o)) is (rw updates.1 at_last)
          | inr differ ↦
              let stays : get nat_eq new.last_of other ≡ get nat_eq old.last_of other = updates.2 other (grind (arith, nat_tests)) in
              rw (stays, objects_are)
              (last_before other object objects (get nat_eq old.last_of other) differ (blocks.last other))
        ];
        room = λ other at stands room. elim (cases_eq at last) [
          | inl same ↦
              let here : get_or new.objects.items last object ≡ object =
              get_or_from_slice_get new.objects.items last object object at_last.0 in
              let one : object ≡ other =
              sym here ∙ get_or_from_slice_get new.objects.items last other object (rw same at stands) in
              subst (λ o. IsLastOf o new.objects.items (Some at)) one (rw same at_last)
          | inr differ ↦
              let long = length-append objects (object ∷ []) in
              let here : slice_get (objects ++ (object ∷ [])) at ≡ Some other = rw objects_are at stands in
              let within : at < length objects =
              omega (arith, slice_get_within (objects ++ (object ∷ [])) at other here, long, place_is, blocks.objects, differ) in
              let stood : slice_get objects at ≡ Some other =
              sym (slice_get-append_left objects (object ∷ []) at within) ∙ here in
              let filled = get_or_append_left old.lengths.items (1 ∷ []) ROWS at (omega (arith, within, blocks.objects, blocks.lengths)) in
              let had_room : HasRoom old at = rw (lengths_are, filled) at room in
              let no_other : object ≢ other = λ same. full at (rw same stood) had_room in
              rw objects_are (last_before other object objects (Some at) no_other (blocks.room other at stood had_room))
        ];
      }

-- where there are no blocks, places may be counted from anywhere
pub blocks_begun : (rows : List Row) (old new : TrackBlocks) → AreBlocksOf rows old → length old.blocks.items ≡ 0 →
    new.blocks ≡ old.blocks → new.objects ≡ old.objects → new.lengths ≡ old.lengths → new.last_of ≡ old.last_of →
    AreBlocksOf rows new
unfolding runs_of
blocks_begun rows old new blocks none blocks_stay objects_stay lengths_stay map_stays = grind (arith, nat_tests, nil_from_length)

-- an object has no room where its last block has none, or where it has no block
pub full_from_last : (rows : List Row) (tracks : TrackBlocks) (object last : ℕ) → AreBlocksOf rows tracks →
    get nat_eq tracks.last_of object ≡ Some last →
    (slice_get tracks.objects.items last ≡ Some object → HasRoom tracks last → ⊥) → IsFull object tracks
full_from_last rows tracks object last blocks is none place stands room = grind (arith, nat_tests, same_last)

pub full_from_none : (rows : List Row) (tracks : TrackBlocks) (object : ℕ) → AreBlocksOf rows tracks →
    get nat_eq tracks.last_of object ≡ None → IsFull object tracks
full_from_none rows tracks object blocks is place stands room =
    stands_nowhere object tracks.objects.items place (rw is at (blocks.last object)) stands

-- an object that has no block has no rows
pub no_rows_from_none : (rows : List Row) (tracks : TrackBlocks) (object : ℕ) → AreBlocksOf rows tracks →
    get nat_eq tracks.last_of object ≡ None → rows_with object rows ≡ []
unfolding runs_of
no_rows_from_none rows tracks object blocks is =
    let objects : List ℕ = tracks.objects.items in
    let filled : List (List PackedPlace) = map filled_of (zip tracks.blocks.items tracks.lengths.items) in
    let owners : map owner (runs_of tracks) ≡ objects = firsts-zip objects filled (filled_long rows tracks blocks) in
    let none : filter (λ other. other == object) objects ≡ [] = rw is at (blocks.last object) in
    sym (blocks.held object) ∙ rows_in-none tracks.origin object (runs_of tracks) (rw owners none)

-- a row was added where each answer says what it is to say
pub has_added : (row : Row) (old new : TrackBlocks) (answer : Result Bool AllocError) →
    (answer ≡ Ok true → HasPut row old new) →
    (answer ≡ Ok false → HasKept old new × ((rows : List Row) → AreBlocksOf rows old →
    (IsAway row old × IsApart row old) ⊎ IsOneTooMany row rows old)) →
    IfOk answer (HasAdded row old new)
has_added row old new (Ok true) put left_out = put refl
has_added row old new (Ok false) put left_out = left_out refl
has_added row old new (Err fault) put left_out = tt
