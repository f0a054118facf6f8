-- The hits of rows, object by object: each is the first stop of the object's path in the region.
use Rattle.std.proofs.Common.{◌≡◌, ℕ, ℤ, Bool, true, false, List, [], ◌∷◌, get_or, map, filter}
use Rattle.std.proofs.Common.{not, refl, ap, sym, ◌∙◌, arith, inl, inr}
use Rattle.std.specs.Prelude.{◌&&◌, ◌==◌, slice_get, option_map}
use Rattle.std.specs.List.{Contains, filter_map, list_any}
use Rattle.std.specs.List.Sorted.{IsNonDecreasingBy, IsStrictlySortedBy}
use Rattle.std.specs.Option.{option_to_list}
use Rattle.std.specs.Ordering.{nat_cmp}
use Rattle.std.specs.declared.cmp.Ordering.TheVariants.{Less}
use Rattle.std.proofs.Math.Bool.{and_comm}
use Rattle.std.proofs.lemmas.Bool.{cases_lt}
use Rattle.std.proofs.lemmas.Bool.Decides.{nat_tests}
use Rattle.std.proofs.lemmas.Int.{ints}
use Rattle.std.proofs.lemmas.List.Elements.{All-contains, All-from_recursion, filter_agree}
use Rattle.std.proofs.lemmas.List.Kept.{IsStrictlySortedBy-filter}
use Rattle.std.proofs.lemmas.Map.Keys.{Less-from_sorted, sorted_head}
use Rattle.std.proofs.lemmas.Map.Views.{any-filter_same}
use Rattle.list_laws.proofs.FilterLemmas.{filter_and}
use Rattle.list_laws.proofs.KeyedLemmas.{filter_alike, keyed-sorted}
use Rattle.list_laws.proofs.MapLemmas.{filter-map, map-flat_map}
use Rattle.list_laws.proofs.MemberLemmas.{filter-none, first_member, later_member, list_any-none, member_of_filter}
use Rattle.list_laws.proofs.OptionLemmas.{flat_map-options}
use Rattle.list_laws.proofs.OrderedLemmas.{find-filter}
use Rattle.track_types.specs.ByFilter.{hit_of, hits_of, is_earlier, is_first_among, is_hit, is_row_between, stop_of}
use Rattle.track_types.specs.Region.{in_region, is_between}
use Rattle.track_types.specs.Row.{IsAscending, row_order}
use Rattle.track_types.specs.declared.region.Region.{Region}
use Rattle.track_types.specs.declared.row.Row.{Row}
use Rattle.track_types.specs.declared.stop.Stop.{Stop}
use Rattle.interval_search.specs.FirstHits.{hit_at, hit_in}

-- a row of an object
abbrev is_of : ℕ → Row → Bool
is_of object row = row.object == object

-- objects do not fall along ascending rows
objects-rise : (rows : List Row) → IsAscending rows → IsNonDecreasingBy (λ row. row.object) rows
objects-rise rows up i j d low high = elim (cases_lt i j) [
  | inl less ↦
      let below : row_order (get_or rows i d) (get_or rows j d) ≡ Less = Less-from_sorted row_order rows i j d up less high in
      grind (arith, nat_tests)
  | inr same ↦ let is : i ≡ j = omega arith in rw is (omega arith)
]

module _ (object : ℕ) where
  -- of ascending rows of one object the first is the only one before which none comes
  earlier : (x y : Row) → x.object ≡ object → y.object ≡ object → row_order x y ≡ Less
      → (is_earlier y x ≡ true) × (is_earlier x y ≡ false)
  earlier x y of also less = (grind (arith, nat_tests, ints), grind (arith, nat_tests, ints))

  never : (x : Row) → is_earlier x x ≡ false
  never x = grind (arith, nat_tests, ints)

  first-own : (own : List Row) → IsAscending own → ((row : Row) → Contains own row → row.object ≡ object)
      → map hit_of (filter (is_first_among own) own)
      ≡ option_to_list (option_map (hit_at object) (slice_get (map stop_of own) 0))
  first-own [] up of = refl
  first-own (x ∷ xs) up of =
      let its = of x (first_member x xs) in
      let apart : (y : Row) → Contains xs y → (is_earlier y x ≡ true) × (is_earlier x y ≡ false) = λ y inside.
      earlier x y its (of y (later_member y x xs inside))
      (All-contains (λ z. row_order x z ≡ Less) xs y
      (All-from_recursion (λ z. row_order x z ≡ Less) xs (sorted_head row_order x xs up)) inside) in
      let least : list_any (is_earlier x) (x ∷ xs) ≡ false =
      rw (never x, list_any-none (is_earlier x) xs (λ y inside. (apart y inside).1)) refl in
      let others : filter (is_first_among (x ∷ xs)) xs ≡ [] =
      filter-none (is_first_among (x ∷ xs)) xs (λ y inside. rw (apart y inside).0 refl) in
      rw (least, others, its) refl

-- the last of three tests comes first
last_first : (a b c : Bool) → a && (b && c) ≡ c && (a && b)
last_first true b c = and_comm b c
last_first false b c = and_comm false c

module _ (rows : List Row) (up : IsAscending rows) (from to : ℤ) (region : Region) where
  abbrev hits : List Row
  hits = filter (is_hit from to region) rows

  abbrev firsts : List Row
  firsts = filter (is_first_among hits) hits

  module _ (object : ℕ) where
    -- the hits of an object
    abbrev own : List Row
    own = filter (is_of object) hits

    -- they are the rows of its path in the region
    own-path : own ≡ filter (λ row. in_region region row.cell) (filter (is_row_between object from to) rows)
    own-path =
        sym (filter_and (is_of object) (is_hit from to region) rows)
        ∙ filter_agree (λ row. is_of object row && is_hit from to region row)
        (λ row. in_region region row.cell && is_row_between object from to row)
        (λ row.
        let within = is_between from to row.instant in
        let same : (row.object == object) ≡ (object == row.object) = grind (arith, nat_tests) in
        last_first (is_of object row) within (in_region region row.cell)
        ∙ ap (λ its. in_region region row.cell && (its && within)) same) rows
        ∙ filter_and (λ row. in_region region row.cell) (is_row_between object from to) rows

    -- the first of all among them are the first of them
    firsts-own : filter (is_of object) firsts ≡ filter (is_first_among own) own
    firsts-own =
        sym (filter_and (is_of object) (is_first_among hits) hits)
        ∙ filter_agree (λ row. is_of object row && is_first_among hits row)
        (λ row. is_first_among hits row && is_of object row)
        (λ row. and_comm (is_of object row) (is_first_among hits row)) hits
        ∙ filter_and (is_first_among hits) (is_of object) hits
        ∙ filter_alike (is_first_among hits) (is_first_among own) own
        (λ row inside.
        let its : is_of object row ≡ true = (member_of_filter (is_of object) hits row inside).1 in
        ap not (sym (any-filter_same (is_earlier row) (is_of object) true
        (λ other before. grind (arith, nat_tests)) hits)))

    -- so the object's hit is the first stop of its path in the region
    hit-own : map hit_of (filter (is_of object) firsts) ≡ option_to_list (hit_in rows from to region object)
    hit-own =
        let path = filter (is_row_between object from to) rows in
        let held : Stop → Bool = λ stop. in_region region stop.cell in
        ap (map hit_of) firsts-own
        ∙ first-own object own
        (IsStrictlySortedBy-filter row_order (is_of object) hits
        (IsStrictlySortedBy-filter row_order (is_hit from to region) rows up))
        (λ row inside. let its : is_of object row ≡ true = (member_of_filter (is_of object) hits row inside).1 in
        grind (arith, nat_tests))
        ∙ ap (λ stops. option_to_list (option_map (hit_at object) (slice_get stops 0)))
        (ap (map stop_of) own-path ∙ sym (filter-map held stop_of path))
        ∙ ap (λ stop. option_to_list (option_map (hit_at object) stop)) (sym (find-filter held (map stop_of path)))

  -- the hits of rows are those of ascending objects that have all rows
  pub hits_of-objects : (objects : List ℕ) → IsStrictlySortedBy nat_cmp objects
      → ((row : Row) → Contains rows row → Contains objects row.object)
      → hits_of rows from to region ≡ filter_map (hit_in rows from to region) objects
  unfolding hits_of
  hits_of-objects objects rise among =
      ap (map hit_of) (sym (keyed-sorted (λ row. row.object) objects rise firsts
      (objects-rise firsts (IsStrictlySortedBy-filter row_order (is_first_among hits) hits
      (IsStrictlySortedBy-filter row_order (is_hit from to region) rows up)))
      (λ row inside.
      let hit = (member_of_filter (is_first_among hits) hits row inside).0 in
      among row (member_of_filter (is_hit from to region) rows row hit).0)))
      ∙ map-flat_map hit_of (λ object. filter (is_of object) firsts) objects
      ∙ flat_map-options (λ object. map hit_of (filter (is_of object) firsts)) (hit_in rows from to region) hit-own objects
