-- Rows of both that are drawn object by object.
use Rattle.std.proofs.Common.{◌≡◌, ℕ, ◌+◌, ◌<◌, ◌≤◌, List, [], ◌∷◌, ◌++◌, length, map, Ordering, refl, sym, subst, ◌∙◌, ap, arith}
use Rattle.std.specs.Prelude.{⊤}
use Rattle.std.specs.Cmp.{IsTotalOrder}
use Rattle.std.specs.List.{AllByRecursion}
use Rattle.std.specs.Ordering.{int_cmp, match_ordering, ordering_reverse, ordering_then}
use Rattle.std.specs.declared.cmp.Ordering.TheVariants.{Less, Greater}
use Rattle.std.proofs.lemmas.Bool.Decides.{nat_tests}
use Rattle.std.proofs.lemmas.Cmp.{nat_cmp_total, tied_itself}
use Rattle.std.proofs.lemmas.List.{append-nil, append_assoc, length-append, length-map}
use Rattle.std.proofs.lemmas.List.Elements.{All-from_recursion, recursion_from_All}
use Rattle.track_types.proofs.RowLemmas.{row_order_total}
use Rattle.track_types.specs.Near.{IsNear}
use Rattle.track_types.specs.Row.{IsAscending, row_order}
use Rattle.track_types.specs.declared.row.Row.{Row}
use Rattle.track_types.specs.declared.stop.Stop.{Stop}
use Rattle.path_union.specs.Merge.{merge_of}
use Rattle.path_union.specs.Paths.{AreTimely, HasMoved, IsFirstPath}
use Rattle.path_union.specs.Union.{rows_of_both}
use Rattle.path_union.specs.Walk.{row_at, stop_order, stops_of_both}
use Rattle.path_union.proofs.MergeLemmas.{all-merge_of, by_order, map-merge_of}
use Rattle.path_union.proofs.PathLemmas.{ascending-behind}
use Rattle.path_union.proofs.RowsLemmas.{IsAscending-rows_of_both, rows_of_both-merged}

-- what is merged with none
pub merge_of-nil : {X : Type 0} (R : X → X → Ordering) (xs : List X) → merge_of R xs [] ≡ xs
unfolding merge_of
merge_of-nil R [] = refl
merge_of-nil R (x ∷ xs) = refl

-- lists of which those in front come before those behind are merged in front and behind
module _ {X : Type 0} {R : X → X → Ordering} (o : IsTotalOrder R) (P Q : X → Type 0)
    (before : (x y : X) → P x → Q y → R x y ≡ Less) where
  -- those behind and those in front
  after : (x y : X) → Q x → P y → R x y ≡ Greater
  after x y behind front = o.antisymm x y ∙ ap ordering_reverse (before y x front behind)

  pub merge_of-front : (xs us ys vs : List X) → AllByRecursion P xs → AllByRecursion Q us → AllByRecursion P ys → AllByRecursion Q vs
      → merge_of R (xs ++ us) (ys ++ vs) ≡ merge_of R xs ys ++ merge_of R us vs
  unfolding merge_of
  merge_of-front [] us [] vs front behind also later = refl
  merge_of-front [] [] (y ∷ ys) vs front behind also later = refl
  merge_of-front [] (u ∷ us) (y ∷ ys) vs front behind also later =
      rw (after u y behind.0 also.0)
      (ap (λ zs. y ∷ zs) (merge_of-front [] (u ∷ us) ys vs front behind also.1 later ∙ ap (λ zs. zs ++ merge_of R (u ∷ us) vs) refl))
  merge_of-front (x ∷ xs) us [] [] front behind also later =
      ap (λ zs. x ∷ (xs ++ zs)) (sym (merge_of-nil R us))
  merge_of-front (x ∷ xs) us [] (v ∷ vs) front behind also later =
      rw (before x v front.0 later.0)
      (ap (λ zs. x ∷ zs) (merge_of-front xs us [] (v ∷ vs) front.1 behind also later
      ∙ ap (λ zs. zs ++ merge_of R us (v ∷ vs)) (merge_of-nil R xs)))
  merge_of-front (x ∷ xs) us (y ∷ ys) vs front behind also later =
      by_order
      (λ zs. zs ≡ match_ordering (R x y) (x ∷ merge_of R xs (y ∷ ys)) (x ∷ merge_of R xs ys) (y ∷ merge_of R (x ∷ xs) ys) ++ merge_of R us vs)
      (R x y) _ _ _
      (λ less. rw less (ap (λ zs. x ∷ zs) (merge_of-front xs us (y ∷ ys) vs front.1 behind also later)))
      (λ same. rw same (ap (λ zs. x ∷ zs) (merge_of-front xs us ys vs front.1 behind also.1 later)))
      (λ more. rw more (ap (λ zs. y ∷ zs) (merge_of-front (x ∷ xs) us ys vs front behind also.1 later)))

-- rows of one object are ordered as their stops
pub same_order : (object : ℕ) (a b : Stop) → stop_order a b ≡ row_order (row_at object a) (row_at object b)
same_order object a b =
    ap (λ first. ordering_then first (int_cmp a.instant b.instant)) (sym (tied_itself nat_cmp_total object))

each_own : (object : ℕ) (stops : List Stop) → AllByRecursion (λ row. row.object ≡ object) (map (row_at object) stops)
each_own object [] = tt
each_own object (stop ∷ stops) = (refl, each_own object stops)

any_stop : (stops : List Stop) → AllByRecursion (λ stop. ⊤) stops
any_stop [] = tt
any_stop (stop ∷ stops) = (tt, any_stop stops)

lesser_before : (object : ℕ) (a b : Row) → a.object ≡ object → object < b.object → row_order a b ≡ Less
lesser_before object a b own greater = grind (arith, nat_tests)

module _ (object : ℕ) (own other : List Stop) (later older later_on older_on : List Row)
    (first : IsFirstPath object own later later_on) (also : IsFirstPath object other older older_on) where
  -- the rows of an object of both, and then those of the greater objects
  pub merged-path : merge_of row_order later older
      ≡ map (row_at object) (stops_of_both own other) ++ merge_of row_order later_on older_on
  merged-path =
      rw (first.all, also.all)
      (merge_of-front row_order_total (λ row. row.object ≡ object) (λ row. object < row.object) (lesser_before object)
      (map (row_at object) own) later_on (map (row_at object) other) older_on
      (each_own object own) (recursion_from_All (λ row. object < row.object) later_on first.greater)
      (each_own object other) (recursion_from_All (λ row. object < row.object) older_on also.greater)
      ∙ ap (λ rows. rows ++ merge_of row_order later_on older_on)
      (sym (map-merge_of stop_order row_order (row_at object) (λ stop. ⊤) (λ a b all also. same_order object a b) own other
      (any_stop own) (any_stop other))))

module _ (older later : List Row) where
  -- before any row is drawn
  pub moved-start : AreTimely older → AreTimely later → HasMoved older later older later []
  moved-start up also = record {
    all = sym (rows_of_both-merged older later up.ascending also.ascending);
    older_up = up.ascending;
    later_up = also.ascending;
  }

  module _ (older_left later_left rows : List Row) (moved : HasMoved older later older_left later_left rows) where
    -- the rows of the next object
    pub moved-path : (object : ℕ) (own other : List Stop) (later_on older_on : List Row)
        → IsFirstPath object own later_left later_on → IsFirstPath object other older_left older_on
        → HasMoved older later older_on later_on (rows ++ map (row_at object) (stops_of_both own other))
    moved-path object own other later_on older_on first also = record {
      all = append_assoc rows (map (row_at object) (stops_of_both own other)) (merge_of row_order later_on older_on)
          ∙ ap (λ xs. rows ++ xs) (sym (merged-path object own other later_left older_left later_on older_on first also))
          ∙ moved.all;
      older_up = ascending-behind (map (row_at object) other) older_on (subst IsAscending also.all moved.older_up);
      later_up = ascending-behind (map (row_at object) own) later_on (subst IsAscending first.all moved.later_up);
    }

    -- there are at least as many of both as those that are drawn and those of the next object
    pub moved-many : (object : ℕ) (own other : List Stop) (later_on older_on : List Row)
        → IsFirstPath object own later_left later_on → IsFirstPath object other older_left older_on
        → length rows + length (stops_of_both own other) ≤ length (rows_of_both older later)
    moved-many object own other later_on older_on first also =
        let stops : List Stop = stops_of_both own other in
        let next : List Row = map (row_at object) stops in
        let behind : List Row = merge_of row_order later_on older_on in
        let all = ap length (moved-path object own other later_on older_on first also).all in
        let many = length-append (rows ++ next) behind in
        let some = length-append rows next in
        let each = length-map stops (row_at object) in
        omega (arith, all, many, some, each)

    -- all were drawn
    pub moved-all : older_left ≡ [] → later_left ≡ [] → rows ≡ rows_of_both older later
    moved-all none no_later =
        sym (append-nil rows) ∙ ap (λ xs. rows ++ xs) (sym (rw (none, no_later) (merge_of-nil row_order [])))
        ∙ moved.all

  -- the rows of both may be a chart's
  pub timely-both : AreTimely older → AreTimely later → AreTimely (rows_of_both older later)
  timely-both up also = record {
    ascending = IsAscending-rows_of_both older later up.ascending also.ascending;
    near = rw (rows_of_both-merged older later up.ascending also.ascending)
        (All-from_recursion (λ row. IsNear row.instant) (merge_of row_order later older)
        (all-merge_of row_order (λ row. IsNear row.instant) later older
        (recursion_from_All (λ row. IsNear row.instant) later also.near)
        (recursion_from_All (λ row. IsNear row.instant) older up.near)));
  }
