-- Lists of small rows and of the rows that they stand for: what is sorted, cut, searched and kept of the ones and the others.
use Rattle.std.proofs.Common.{◌≡◌, ℕ, ◌+◌, ◌<◌, ◌≤◌, ℤ, Bool, true, List, Result, Ok, Err, length, get_or, filter, map, take, sym, ◌∙◌, ap, arith}
use Rattle.std.specs.Prelude.{pos, ◌+ℤ◌}
use Rattle.std.specs.Ordering.{int_cmp, is_lt, nat_cmp, ordering_then}
use Rattle.std.specs.declared.cmp.Ordering.{Ordering}
use Rattle.std.specs.List.Sorted.{IsBinarySearchResult, IsPartitionedBy, IsPermutation, IsSearchInRange, IsSortedBy, IsStableBy, ties}
use Rattle.std.proofs.lemmas.Bool.Decides.{nat_tests}
use Rattle.std.proofs.lemmas.Int.{ints}
use Rattle.std.proofs.lemmas.List.{get_or-map, length-map, take_all}
use Rattle.std.proofs.lemmas.List.Sorted.{IsPermutation-map}
use Rattle.list_laws.proofs.MapLemmas.{filter-map}
use Rattle.list_laws.proofs.StableLemmas.{filter-stable}
use Rattle.track_types.specs.Row.{place_of, place_order}
use Rattle.track_types.specs.declared.row.Row.{Row}
use Rattle.live_tail.specs.ByInstant.{AreByInstant, instant_order}
use Rattle.live_tail.specs.SmallRows.{row_from, rows_from}
use Rattle.live_tail.specs.declared.small_row.Origin.{Origin}
use Rattle.live_tail.specs.declared.small_row.SmallRow.{SmallRow}

-- what an index past the end reads
abbrev pub no_small : SmallRow
no_small = record { object = 0; instant = 0; x = 0; y = 0 }

module _ {X Y : Type 0} (f : X → Y) (none : X) where
  pub IsSortedBy-map : (lt : Y → Y → Bool) (xs : List X) → IsSortedBy (λ a b. lt (f a) (f b)) xs → IsSortedBy lt (map f xs)
  IsSortedBy-map lt xs sorted k d low high =
      let within : k + 1 < length xs = rw length-map at high in
      rw (get_or-map f xs (k + 1) none d within, get_or-map f xs k none d (omega (arith, within))) (sorted k none low within)

  pub IsPartitionedBy-from_map : (p : Y → Bool) (xs : List X) → IsPartitionedBy p (map f xs) → IsPartitionedBy (λ x. p (f x)) xs
  IsPartitionedBy-from_map p xs parted i j d low high is =
      let there : j < length (map f xs) = rw length-map high in
      rw (get_or-map f xs i d (f d) (omega (arith, low, high))) at
      (parted i j (f d) low there (rw (get_or-map f xs j d (f d) high) is))

  -- a search by an order of the ones that is the order of the others
  pub IsBinarySearchResult-map : (own : X → Ordering) (ord : Y → Ordering) → ((x : X) → ord (f x) ≡ own x) → (xs : List X) (r : Result ℕ ℕ)
      → IsSearchInRange r (length xs) → IsBinarySearchResult own xs r → IsBinarySearchResult ord (map f xs) r
  IsBinarySearchResult-map own ord same xs (Ok i) within found = λ d. rw (get_or-map f xs i none d within) (same (get_or xs i none) ∙ found none)
  IsBinarySearchResult-map own ord same xs (Err i) within found = λ rises.
      let parted = found (λ a b d low high.
      let there : b < length (map f xs) = rw length-map high in
      rw (
        get_or-map f xs a d (f d) (omega (arith, low, high)),
        get_or-map f xs b d (f d) high,
        same (get_or xs a d),
        same (get_or xs b d),
      ) at (rises a b (f d) low there)) in (
        (λ k d low high. rw (get_or-map f xs k none d (omega (arith, high, within))) (same (get_or xs k none) ∙ parted.0 k none low high)),
        (λ k d low high.
            let here : k < length xs = rw length-map at high in
            rw (get_or-map f xs k none d here) (same (get_or xs k none) ∙ parted.1 k none low here)),
      )

  -- what passes two tests
  pub filter-map2 : (p q : Y → Bool) (xs : List X) → filter p (filter q (map f xs)) ≡ map f (filter (λ x. p (f x)) (filter (λ x. q (f x)) xs))
  filter-map2 p q xs = ap (filter p) (filter-map q f xs) ∙ filter-map p f (filter (λ x. q (f x)) xs)

-- the order of two small rows by instant is that of their rows
shifted : (from : ℤ) (a b : ℕ) → int_cmp (from +ℤ pos a) (from +ℤ pos b) ≡ nat_cmp a b
shifted from a b = grind (arith, ints, nat_tests)

abbrev pub instant_less : SmallRow → SmallRow → Bool
instant_less a b = is_lt (nat_cmp a.instant b.instant)

-- small rows whose rows tie with a third
tied : (origin : Origin) (other : Row) (a b : SmallRow) → ties (λ c d. is_lt (instant_order c d)) other (row_from origin a) ≡ true
    → ties (λ c d. is_lt (instant_order c d)) other (row_from origin b) ≡ true → ties instant_less a b ≡ true
tied origin other a b one also = grind (arith, ints, nat_tests)

-- small rows that were sorted by instant
pub sorted-from : (origin : Origin) (smalls sorted : List SmallRow) → IsPermutation smalls sorted
    → IsSortedBy instant_less sorted → IsStableBy instant_less smalls sorted
    → AreByInstant (rows_from origin smalls) (rows_from origin sorted)
sorted-from origin smalls sorted moved order stable =
    let lt : Row → Row → Bool = λ a b. is_lt (instant_order a b) in
    record {
      moved = IsPermutation-map (row_from origin) smalls sorted moved;
      order = IsSortedBy-map (row_from origin) no_small lt sorted (λ k d low high. ap is_lt (shifted origin.instant _ _) ∙ order k d low high);
      stable = λ row.
          filter-map (ties lt row) (row_from origin) sorted
          ∙ ap (map (row_from origin)) (filter-stable instant_less smalls sorted stable
          (λ small. ties lt row (row_from origin small)) (λ a b one also. tied origin row a b one also))
          ∙ sym (filter-map (ties lt row) (row_from origin) smalls);
    }

-- the order of small rows by object, then instant, against an object and a distance
abbrev pub against : ℕ → ℕ → SmallRow → Ordering
against object distance small = ordering_then (nat_cmp small.object object) (nat_cmp small.instant distance)

-- a search for an object and a distance among small rows is one for an object and an instant among their rows
pub searched-from : (origin : Origin) (object distance : ℕ) (smalls : List SmallRow) (r : Result ℕ ℕ) → IsSearchInRange r (length smalls)
    → IsBinarySearchResult (against object distance) smalls r
    → IsBinarySearchResult (λ row. place_order (place_of row) (object, origin.instant +ℤ pos distance)) (rows_from origin smalls) r
searched-from origin object distance smalls r within found =
    IsBinarySearchResult-map (row_from origin) no_small (against object distance)
    (λ row. place_order (place_of row) (object, origin.instant +ℤ pos distance))
    (λ small. ap (ordering_then (nat_cmp small.object object)) (shifted origin.instant small.instant distance)) smalls r within found

-- the row that a small one at a place stands for
pub row-at : (origin : Origin) (smalls : List SmallRow) (i : ℕ) (d : SmallRow) (e : Row) → i < length smalls
    → row_from origin (get_or smalls i d) ≡ get_or (rows_from origin smalls) i e
row-at origin smalls i d e below = sym (get_or-map (row_from origin) smalls i d e below)

pub below-map : (origin : Origin) (smalls : List SmallRow) (i : ℕ) → i < length smalls → i < length (rows_from origin smalls)
below-map origin smalls i below = rw length-map below

-- past the end all rows were taken
pub all-taken : (origin : Origin) (smalls : List SmallRow) (i : ℕ) → length smalls ≤ i → take i (rows_from origin smalls) ≡ rows_from origin smalls
all-taken origin smalls i past = take_all i (rows_from origin smalls) (rw length-map past)

abbrev pub row-of : ℕ → ℤ → ℤ → ℤ → Row
row-of object instant x y = record { object = object; instant = instant; cell = record { x = x; y = y } }

-- rows of the same numbers
pub same-row : (object : ℕ) (a b x u y v : ℤ) → a ≡ b → x ≡ u → y ≡ v → row-of object a x y ≡ row-of object b u v
same-row object a b x u y v instants columns lines =
    ap (λ z. row-of object z x y) instants ∙ ap (λ z. row-of object b z y) columns ∙ ap (row-of object b u) lines
