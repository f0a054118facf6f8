-- The hits of objects, and the objects of rows.
use Rattle.std.proofs.Common.{◌≡◌, ℕ, pos, true, false, List, [], ◌∷◌, ◌++◌, ◌+◌, ◌<◌, length, get_or, take, Option, None, Some, eqb, refl, ◌∙◌, ap, arith}
use Rattle.std.specs.Prelude.{◌==◌, option_map, option_to_list}
use Rattle.std.specs.List.{AllByRecursion, Contains, cons_option, filter_map}
use Rattle.std.specs.List.Sorted.{IsStrictlySortedBy}
use Rattle.std.specs.Ordering.{nat_cmp}
use Rattle.std.specs.declared.cmp.Ordering.TheVariants.{Less}
use Rattle.std.proofs.lemmas.Bool.{eqb-true}
use Rattle.std.proofs.lemmas.Bool.Decides.{nat_tests}
use Rattle.std.proofs.lemmas.List.{take_more}
use Rattle.std.proofs.lemmas.List.Elements.{filter_map-append}
use Rattle.std.proofs.lemmas.Map.Views.{Contains-from_any}
use Rattle.log_cursor.specs.Touching.{first_among}
use Rattle.track_types.specs.Quantities.{objects_of}
use Rattle.track_types.specs.Region.{in_region}
use Rattle.track_types.specs.declared.hit.Hit.{Hit}
use Rattle.track_types.specs.declared.region.Region.{Region}
use Rattle.track_types.specs.declared.row.Row.{Row}
use Rattle.track_types.specs.declared.stop.Stop.{Stop}
use Rattle.interval_search.specs.FirstHits.{hit_at}
use Rattle.live_tail.proofs.ObjectLemmas.{any-distinct, any-map, any-member}

-- what an index past the end reads
abbrev pub no_hit : Hit
no_hit = record { object = 0; instant = pos 0; cell = record { x = pos 0; y = pos 0 } }

-- the first stop in a region
module _ (region : Region) (stop : Stop) (rest : List Stop) where
  pub first-later : in_region region stop.cell ≡ false → first_among region (stop ∷ rest) ≡ first_among region rest
  first-later outside = rw outside refl

single : {Y : Type 0} (made : Option Y) → cons_option made [] ≡ option_to_list made
single None = refl
single (Some y) = refl

-- what is made of one member more
pub filter_map-more : {X Y : Type 0} (make : X → Option Y) (xs : List X) (i : ℕ) (d : X) → i < length xs
    → filter_map make (take (i + 1) xs) ≡ filter_map make (take i xs) ++ option_to_list (make (get_or xs i d))
filter_map-more make xs i d below =
    ap (filter_map make) (take_more xs i d below) ∙ filter_map-append make (take i xs) (get_or xs i d ∷ [])
    ∙ ap (λ zs. filter_map make (take i xs) ++ zs) (single (make (get_or xs i d)))

-- the hits of objects, each of which has a stop or none
module _ (make : ℕ → Option Stop) where
  abbrev hit_from : ℕ → Option Hit
  hit_from object = option_map (hit_at object) (make object)

  by_stop : (P : List Hit → Type 0) (object : ℕ) (stop : Option Stop) (hits : List Hit) → P hits →
      ((found : Stop) → P (hit_at object found ∷ hits)) → P (cons_option (option_map (hit_at object) stop) hits)
  by_stop P object None hits none some = none
  by_stop P object (Some stop) hits none some = some stop

  all-hits : (object : ℕ) (others : List ℕ) → AllByRecursion (λ other. nat_cmp object other ≡ Less) others →
      AllByRecursion (λ (hit : Hit). nat_cmp object hit.object ≡ Less) (filter_map hit_from others)
  all-hits object [] all = tt
  all-hits object (other ∷ others) all =
      by_stop (AllByRecursion (λ (hit : Hit). nat_cmp object hit.object ≡ Less)) other (make other) (filter_map hit_from others)
      (all-hits object others all.1) (λ stop. (all.0, all-hits object others all.1))

  -- they are in strict order where the objects are
  pub hits-rise : (objects : List ℕ) → IsStrictlySortedBy nat_cmp objects →
      IsStrictlySortedBy (λ (a b : Hit). nat_cmp a.object b.object) (filter_map hit_from objects)
  unfolding IsStrictlySortedBy
  hits-rise [] up = tt
  hits-rise (object ∷ objects) up =
      by_stop (IsStrictlySortedBy (λ (a b : Hit). nat_cmp a.object b.object)) object (make object) (filter_map hit_from objects)
      (hits-rise objects up.1) (λ stop. (all-hits object objects up.0, hits-rise objects up.1))

own_test : (z : ℕ) → (z == z) ≡ true
own_test z = grind (arith, nat_tests)

-- the object of a row is among those of the rows
pub has_object-own : (rows : List Row) (row : Row) → Contains rows row → Contains (objects_of rows) row.object
has_object-own rows row inside =
    Contains-from_any {eq = eqb} eqb-true row.object (objects_of rows)
    (any-distinct row.object _ ∙ any-map (λ o. row.object == o) (λ (other : Row). other.object) rows
    ∙ any-member (λ (other : Row). row.object == other.object) rows row inside (own_test row.object))
