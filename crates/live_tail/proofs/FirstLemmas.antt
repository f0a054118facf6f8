-- Hits among which is the first of each object: one list of them is in strict order by object, that of the first hits.
use Rattle.std.proofs.Common.{◌≡◌, ◌≤ℤ◌, suc, ℕ, ℤ, Bool, true, false, List, [], ◌∷◌, ◌+◌, All, get_or, filter, find, Option, None, Some, Ordering, refl, sym, subst, ◌∙◌, ap, arith, inl, inr}
use Rattle.std.specs.Prelude.{◌==◌, ◌&&◌, ◌||◌, option_map}
use Rattle.std.specs.Cmp.{IsTotalOrder}
use Rattle.std.specs.Int.Signed.{le_z}
use Rattle.std.specs.List.{AllPairs, Contains, cons_option, dedup, dedup_from, filter_map, list_any}
use Rattle.std.specs.List.Sorted.{IsPermutation, IsSorted, IsStrictlySortedBy}
use Rattle.std.specs.Ordering.{int_cmp, is_eq, is_lt, nat_cmp, ordering_reverse, ordering_then}
use Rattle.std.specs.declared.cmp.Ordering.TheVariants.{Less, Equal}
use Rattle.std.proofs.lemmas.Bool.{and_parts, cases_Bool}
use Rattle.std.proofs.lemmas.Bool.Decides.{nat_tests}
use Rattle.std.proofs.lemmas.Cmp.{nat_cmp_total, on_total}
use Rattle.std.proofs.lemmas.Int.{ints}
use Rattle.std.proofs.lemmas.List.Elements.{All-contains}
use Rattle.std.proofs.lemmas.List.Folds.{Any-from_list_any}
use Rattle.std.proofs.lemmas.List.Kept.{Contains-from_dedup, IsStrictlySortedBy-dedup}
use Rattle.std.proofs.lemmas.List.MinMax.{ranks_by}
use Rattle.std.proofs.lemmas.List.Sorted.{Contains-permutation, IsPermutation-sym, list_any-IsPermutation, sorted_far}
use Rattle.std.proofs.lemmas.Map.Keys.{sorted_tail}
use Rattle.list_laws.proofs.AscendingLemmas.{first_below, same_from_members}
use Rattle.list_laws.proofs.MemberLemmas.{member_cases, member_of_filter, member_of_find, member_of_map, find-passes, no_member, Contains-filter, Contains-map}
use Rattle.list_laws.proofs.SumLemmas.{All-filter_map}
use Rattle.log_cursor.specs.Touching.{first_among}
use Rattle.track_types.specs.ByFilter.{hit_of, hits_of, is_hit, is_row_between, path_of, stop_of}
use Rattle.track_types.specs.Quantities.{objects_of}
use Rattle.track_types.specs.Region.{in_region, is_between}
use Rattle.track_types.specs.Row.{IsAscending, place_order, row_order}
use Rattle.track_types.specs.declared.hit.Hit.{Hit}
use Rattle.track_types.specs.declared.region.Region.{Region}
use Rattle.track_types.specs.declared.row.Row.{Row}
use Rattle.track_types.specs.declared.stop.Stop.{Stop}
use Rattle.track_types.proofs.RowLemmas.{place_order_total, row_order_total}
use Rattle.interval_search.specs.FirstHits.{hit_at, hit_in}
use Rattle.interval_search.proofs.HitLemmas.{hits_of-objects}
use Rattle.live_tail.specs.Hits.{HaveFirst, IsHitOf, is_no_later}
use Rattle.live_tail.specs.Walk.{stop_order}
use Rattle.live_tail.proofs.BothLemmas.{path-rises}
use Rattle.live_tail.proofs.HitLemmas.{has_object-own, hits-rise}
use Rattle.live_tail.proofs.ObjectLemmas.{objects_of-rise}

-- a member that passes
pub some_of : {X : Type 0} (p : X → Bool) (xs : List X) → list_any p xs ≡ true → (x : X) × Contains xs x × (p x ≡ true)
some_of p xs some = let found = Any-from_list_any p xs some in (found.1, (found.0, found.2, found.3), found.4)

-- the order by object
abbrev pub hit_order : Hit → Hit → Ordering
hit_order a b = nat_cmp a.object b.object

pub hit_order_total : IsTotalOrder hit_order
hit_order_total = on_total (λ (hit : Hit). hit.object) nat_cmp_total

-- members in strict order that tie are one
module _ {X : Type 0} {R : X → X → Ordering} (o : IsTotalOrder R) where
  below_never : {P : Type 0} (x a b : X) → R x b ≡ Less → x ≡ a → R a b ≡ Equal → P
  below_never x a b less is tied = let same : R x b ≡ R a b = ap (λ z. R z b) is in absurd (cc)

  back_tied : (a b : X) → R a b ≡ Equal → R b a ≡ Equal
  back_tied a b tied = o.antisymm b a ∙ ap ordering_reverse tied

  pub tied_same : (xs : List X) → IsStrictlySortedBy R xs → (a b : X) → Contains xs a → Contains xs b → R a b ≡ Equal → a ≡ b
  tied_same [] up a b one other tied = no_member a one
  tied_same (x ∷ xs) up a b one other tied = elim (member_cases a x xs one) [
    | inl is ↦ elim (member_cases b x xs other) [
      | inl also ↦ sym is ∙ also
      | inr later ↦ below_never x a b (first_below R x b xs up later) is tied
    ]
    | inr early ↦ elim (member_cases b x xs other) [
      | inl also ↦ below_never x b a (first_below R x a xs up early) also (back_tied a b tied)
      | inr later ↦ tied_same xs (sorted_tail R x xs up) a b early later tied
    ]
  ]

-- what is made of a member
pub any-made : {X Y : Type 0} (t : Y → Bool) (make : X → Option Y) (xs : List X) (x : X) (y : Y) → Contains xs x → make x ≡ Some y →
    t y ≡ true → list_any t (filter_map make xs) ≡ true
any-made t make [] x y inside made passes = no_member x inside
any-made {X} {Y} t make (z ∷ xs) x y inside made passes = elim (member_cases x z xs inside) [
  | inl is ↦
      let here : make z ≡ Some y = ap make is ∙ made in
      rw (here, passes) refl
  | inr later ↦ by_made (make z) (any-made t make xs x y later made passes)
]
  where
    by_made : (made : Option Y) → list_any t (filter_map make xs) ≡ true → list_any t (cons_option made (filter_map make xs)) ≡ true
    by_made None rest = rest
    by_made (Some first) rest = elim (cases_Bool (t first)) [
      | inl is ↦ rw is refl
      | inr not ↦ rw not rest
    ]

same_object : (own other : ℕ) (a b : ℤ) → ((own == other) && le_z b a) ≡ true → own ≡ other
same_object own other a b is = grind (arith, nat_tests)

no_later : (own other : ℕ) (a b : ℤ) → ((own == other) && le_z b a) ≡ true → b ≤ℤ a
no_later own other a b is = grind (arith, nat_tests, ints)

pub later_from : (own other : ℕ) (a b : ℤ) → own ≡ other → b ≤ℤ a → ((own == other) && le_z b a) ≡ true
later_from own other a b same low = grind (arith, nat_tests, ints)

one_instant : (a b c : ℤ) → b ≤ℤ a → c ≤ℤ b → c ≡ a → a ≡ b
one_instant a b c low lower same = omega (arith, ints)

-- a hit of a row's object that is no later, and of which row it is
pub its_object : (row : Row) (hit : Hit) → is_no_later row hit ≡ true → row.object ≡ hit.object
its_object row hit is = same_object row.object hit.object row.instant hit.instant is

pub its_instant : (row : Row) (hit : Hit) → is_no_later row hit ≡ true → hit.instant ≤ℤ row.instant
its_instant row hit is = no_later row.object hit.object row.instant hit.instant is

tied_places : (a b : Row) → a.object ≡ b.object → a.instant ≡ b.instant → row_order a b ≡ Equal
tied_places a b own same = grind (arith, nat_tests, ints)

tied_objects : (a b : Hit) → a.object ≡ b.object → hit_order a b ≡ Equal
tied_objects a b own = grind (arith, nat_tests)

module _ (rows : List Row) (up : IsAscending rows) (from to : ℤ) (region : Region) where
  -- a hit of one list in strict order is among those of another
  among : (xs ys : List Hit) → IsStrictlySortedBy hit_order xs → HaveFirst rows from to region xs → HaveFirst rows from to region ys →
      (z : Hit) → Contains xs z → Contains ys z
  among xs ys rise one other z inside =
      let of = one.are z inside in
      let near = some_of (is_no_later of.row) ys (other.first of.row of.inside of.meets) in
      let y : Hit = near.0 in
      let also = other.are y near.1 in
      let back = some_of (is_no_later also.row) xs (one.first also.row also.inside also.meets) in
      let x : Hit = back.0 in
      let z_object : of.row.object ≡ z.object = ap (λ (hit : Hit). hit.object) of.is in
      let z_instant : of.row.instant ≡ z.instant = ap (λ (hit : Hit). hit.instant) of.is in
      let y_object : also.row.object ≡ y.object = ap (λ (hit : Hit). hit.object) also.is in
      let y_instant : also.row.instant ≡ y.instant = ap (λ (hit : Hit). hit.instant) also.is in
      let first : of.row.object ≡ y.object = its_object of.row y near.2 in
      let second : also.row.object ≡ x.object = its_object also.row x back.2 in
      let objects : of.row.object ≡ also.row.object = first ∙ sym y_object in
      let is : x ≡ z = tied_same hit_order_total xs rise x z back.1 inside
      (tied_objects x z (sym second ∙ sym objects ∙ z_object)) in
      let low : also.row.instant ≤ℤ of.row.instant = subst (λ t. t ≤ℤ of.row.instant) (sym y_instant) (its_instant of.row y near.2) in
      let instants : of.row.instant ≡ also.row.instant = one_instant of.row.instant also.row.instant x.instant low
      (its_instant also.row x back.2) (ap (λ (hit : Hit). hit.instant) is ∙ sym z_instant) in
      let same : of.row ≡ also.row = tied_same row_order_total rows up of.row also.row of.inside also.inside
      (tied_places of.row also.row objects instants) in
      subst (Contains ys) (sym also.is ∙ ap hit_of (sym same) ∙ of.is) near.1

  -- so there is one such list
  pub same_first : (xs ys : List Hit) → IsStrictlySortedBy hit_order xs → IsStrictlySortedBy hit_order ys →
      HaveFirst rows from to region xs → HaveFirst rows from to region ys → xs ≡ ys
  same_first xs ys rise also one other =
      same_from_members hit_order_total xs ys rise also (among xs ys rise one other) (among ys xs also other one)

  -- the first stop that passes is no later than others that do
  first_found : (p : Stop → Bool) (stops : List Stop) → IsStrictlySortedBy stop_order stops → (z : Stop) → Contains stops z → p z ≡ true →
      (y : Stop) × (find p stops ≡ Some y) × (y.instant ≤ℤ z.instant)
  first_found p [] rise z inside passes = no_member z inside
  first_found p (x ∷ stops) rise z inside passes = elim (cases_Bool (p x)) [
    | inl is ↦ (
      x,
      rw is refl,
      elim (member_cases z x stops inside) [
        | inl same ↦ rw same (omega (arith, ints))
        | inr later ↦ let less : int_cmp x.instant z.instant ≡ Less = first_below stop_order x z stops rise later in grind (arith, ints)
      ],
    )
    | inr not ↦ elim (member_cases z x stops inside) [
      | inl same ↦ let never : p x ≡ true = ap p same ∙ passes in absurd (cc)
      | inr later ↦
          let found = first_found p stops (sorted_tail stop_order x stops rise) z later passes in
          (found.0, rw not found.1, found.2)
    ]
  ]

  own_between : (object : ℕ) (b : Bool) → b ≡ true → ((object == object) && b) ≡ true
  own_between object b is = grind (arith, nat_tests)

  -- the first hit of a row's object, where the row is a hit
  pub hit_in-first : (row : Row) → Contains rows row → is_hit from to region row ≡ true →
      (hit : Hit) × (hit_in rows from to region row.object ≡ Some hit) × (is_no_later row hit ≡ true)
  hit_in-first row inside meets =
      let parts = and_parts (is_between from to row.instant) (in_region region row.cell) meets in
      let own : List Row = filter (is_row_between row.object from to) rows in
      let found = first_found (λ stop. in_region region stop.cell) (path_of rows row.object from to)
      (path-rises rows up row.object from to) (stop_of row)
      (Contains-map stop_of own row (Contains-filter (is_row_between row.object from to) rows row
      (own_between row.object (is_between from to row.instant) parts.0) inside)) parts.1 in (
        hit_at row.object found.0,
        ap (option_map (hit_at row.object)) found.1,
        later_from row.object row.object row.instant found.0.instant refl found.2,
      )

  made_from : (object : ℕ) (stop : Option Stop) (hit : Hit) → option_map (hit_at object) stop ≡ Some hit →
      (found : Stop) × (stop ≡ Some found) × (hit_at object found ≡ hit)
  made_from object None hit made = absurd (cc)
  made_from object (Some stop) hit made = (stop, refl, some_is (hit_at object stop) hit made)
    where
      some_is : (a b : Hit) → Some a ≡ Some b → a ≡ b
      some_is a b same = grind (arith)

  hit_parts : (object own : ℕ) (b : Bool) → ((object == own) && b) ≡ true → (own ≡ object) × (b ≡ true)
  hit_parts object own b is = (grind (arith, nat_tests), grind (arith, nat_tests))

  -- it is a hit
  pub hit_in-is : (object : ℕ) (hit : Hit) → hit_in rows from to region object ≡ Some hit → IsHitOf rows from to region hit
  hit_in-is object hit made =
      let path : List Stop = path_of rows object from to in
      let held : Stop → Bool = λ stop. in_region region stop.cell in
      let own : List Row = filter (is_row_between object from to) rows in
      let found = made_from object (first_among region path) hit made in
      let of = member_of_map stop_of own found.0 (member_of_find held path found.0 found.1) in
      let row : Row = of.0 in
      let member = member_of_filter (is_row_between object from to) rows row of.1 in
      let parts = hit_parts object row.object (is_between from to row.instant) member.1 in
      let inside : in_region region row.cell ≡ true = ap held of.2 ∙ find-passes held path found.0 found.1 in
      record {
        row = row;
        inside = member.0;
        meets = rw (parts.1, inside) refl;
        is = ap (λ (own : ℕ). hit_at own (stop_of row)) parts.0 ∙ ap (hit_at object) of.2 ∙ found.2;
      }

  hits_are : hits_of rows from to region ≡ filter_map (hit_in rows from to region) (objects_of rows)
  hits_are =
      hits_of-objects rows up from to region (objects_of rows) (objects_of-rise rows up) (λ row inside. has_object-own rows row inside)

  -- the first hits are such hits, in strict order
  pub hits_of-rise : IsStrictlySortedBy hit_order (hits_of rows from to region)
  hits_of-rise =
      subst (IsStrictlySortedBy hit_order) (sym hits_are)
      (hits-rise (λ object. first_among region (path_of rows object from to)) (objects_of rows) (objects_of-rise rows up))

  pub HaveFirst-hits_of : HaveFirst rows from to region (hits_of rows from to region)
  HaveFirst-hits_of =
      let make : ℕ → Option Hit = hit_in rows from to region in
      subst (HaveFirst rows from to region) (sym hits_are) (record {
        are = λ hit inside. All-contains (IsHitOf rows from to region) (filter_map make (objects_of rows)) hit
            (All-filter_map (IsHitOf rows from to region) make (objects_of rows) hit_in-is) inside;
        first = λ row inside meets.
            let found = hit_in-first row inside meets in
            any-made (is_no_later row) make (objects_of rows) row.object found.0 (has_object-own rows row inside) found.1 found.2;
      })

-- however they stand
pub HaveFirst-moved : (rows : List Row) (from to : ℤ) (region : Region) (hits moved : List Hit) → IsPermutation hits moved →
    HaveFirst rows from to region hits → HaveFirst rows from to region moved
HaveFirst-moved rows from to region hits moved perm have = record {
  are = λ hit inside. have.are hit (Contains-permutation moved hits hit (IsPermutation-sym hits moved perm) inside);
  first = λ row inside meets.
      sym (list_any-IsPermutation (is_no_later row) hits moved perm) ∙ have.first row inside meets;
}

-- of hits by object, then instant, the first of each object are enough
abbrev pub hit_place : Hit → ℕ × ℤ
hit_place hit = (hit.object, hit.instant)

abbrev pub is_same_object : Hit → Hit → Bool
is_same_object a b = a.object == b.object

-- one hit does not come before another by object, then instant
abbrev IsBehind : Hit → Hit → Type 0
IsBehind a b = is_lt (place_order (hit_place b) (hit_place a)) ≡ false

kept_test : (row : Row) (k x : Hit) (rest : Bool) → IsBehind k x → is_same_object x k ≡ true →
    (is_no_later row k || (is_no_later row x || rest)) ≡ (is_no_later row k || rest)
kept_test row k x rest behind same = elim (cases_Bool (is_no_later row x)) [
  | inl is ↦ let also : is_no_later row k ≡ true = passes row.object k.object x.object row.instant k.instant x.instant behind same is in rw also refl
  | inr not ↦ rw not refl
]
  where
    passes : (own k x : ℕ) (at a b : ℤ) → is_lt (ordering_then (nat_cmp x k) (int_cmp b a)) ≡ false → (x == k) ≡ true →
        ((own == x) && le_z b at) ≡ true → ((own == k) && le_z a at) ≡ true
    passes own k x at a b behind same is = grind (arith, nat_tests, ints)

any-dedup_from : (row : Row) (k : Hit) (xs : List Hit) → All (IsBehind k) xs → AllPairs IsBehind xs →
    list_any (is_no_later row) (dedup_from is_same_object k xs) ≡ (is_no_later row k || list_any (is_no_later row) xs)
any-dedup_from row k [] far pairs = refl
any-dedup_from row k (x ∷ xs) far pairs =
    let others : AllPairs IsBehind xs = λ i j d below inside. pairs (suc i) (suc j) d (omega arith) (omega arith) in
    elim (cases_Bool (is_same_object x k)) [
      | inl same ↦
          rw same (any-dedup_from row k xs (λ j d inside. far (suc j) d (omega arith)) others
          ∙ sym (kept_test row k x (list_any (is_no_later row) xs) (far 0 x (omega arith)) same))
      | inr not ↦
          rw not (ap (λ b. is_no_later row k || b)
          (any-dedup_from row x xs (λ j d inside. pairs 0 (suc j) d (omega arith) (omega arith)) others))
    ]

any-first : (row : Row) (sorted : List Hit) → AllPairs IsBehind sorted →
    list_any (is_no_later row) (dedup is_same_object sorted) ≡ list_any (is_no_later row) sorted
any-first row [] pairs = refl
any-first row (x ∷ xs) pairs =
    any-dedup_from row x xs (λ j d inside. pairs 0 (suc j) d (omega arith) (omega arith))
    (λ i j d below inside. pairs (suc i) (suc j) d (omega arith) (omega arith))

place_total : IsTotalOrder (λ (a b : Hit). place_order (hit_place a) (hit_place b))
place_total = on_total hit_place place_order_total

by_object : (own other : ℕ) (a b : ℤ) → is_lt (ordering_then (nat_cmp own other) (int_cmp a b)) ≡ false → is_lt (nat_cmp own other) ≡ false
by_object own other a b behind = grind (arith, nat_tests)

same_tied : (a b : ℕ) → (a == b) ≡ is_eq (nat_cmp a b)
same_tied a b = grind (arith, nat_tests)

module _ (sorted : List Hit) (order : IsSorted (λ (a b : Hit). place_order (hit_place a) (hit_place b)) sorted) where
  all_behind : AllPairs IsBehind sorted
  all_behind i j d below inside = sorted_far _ (ranks_by place_total (λ a. a)) sorted order i j d (omega arith) inside

  pub dedup-rises : IsStrictlySortedBy hit_order (dedup is_same_object sorted)
  dedup-rises =
      IsStrictlySortedBy-dedup hit_order_total (λ a b. same_tied a.object b.object) sorted
      (λ k d low high.
      let next : Hit = get_or sorted (k + 1) d in
      let here : Hit = get_or sorted k d in
      by_object next.object here.object next.instant here.instant (order k d low high))

  pub HaveFirst-dedup : (rows : List Row) (from to : ℤ) (region : Region) → HaveFirst rows from to region sorted →
      HaveFirst rows from to region (dedup is_same_object sorted)
  HaveFirst-dedup rows from to region have = record {
    are = λ hit inside. have.are hit (Contains-from_dedup is_same_object sorted hit inside);
    first = λ row inside meets. any-first row sorted all_behind ∙ have.first row inside meets;
  }
