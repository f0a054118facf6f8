-- What was read of walks and paths until a row is passed.
use Rattle.std.proofs.Common.{◌≡◌, ℕ, ℤ, ◌<ℤ◌, ◌+◌, ◌-◌, ◌<◌, ◌≤◌, false, List, [], ◌∷◌, ◌++◌, length, map, All, Option, None, Some, refl, sym, ap, subst, ◌∙◌, arith, inl, inr, ◌⊎◌}
use Rattle.std.specs.Prelude.{if◌then◌else◌, option_map, slice_get}
use Rattle.std.specs.List.{AllByRecursion}
use Rattle.std.specs.List.Sorted.{IsStrictlySortedBy}
use Rattle.std.specs.Option.{IfSome}
use Rattle.std.specs.Ordering.{int_cmp}
use Rattle.std.specs.declared.cmp.Ordering.TheVariants.{Less}
use Rattle.std.proofs.lemmas.Int.{ints}
use Rattle.std.proofs.lemmas.List.{append_assoc, length-map}
use Rattle.std.proofs.lemmas.List.Elements.{All-from_recursion, recursion_from_All}
use Rattle.std.proofs.lemmas.Map.Keys.{Less-from_sorted}
use Rattle.std.proofs.lemmas.Option.{get_or_from_slice_get, slice_get-map, slice_get_cases, slice_get_within}
use Rattle.std.proofs.Math.Seq.{get_or-append_seam}
use Rattle.list_laws.proofs.SliceLemmas.{slice_get-append_add, slice_get-append_left}
use Rattle.track_types.specs.Row.{IsAscending, row_order}
use Rattle.track_types.specs.declared.row.Row.{Row}
use Rattle.track_types.specs.declared.stop.Stop.{Stop}
use Rattle.path_union.specs.Merge.{merge_of}
use Rattle.path_union.specs.Paths.{AreTimely, HasMoved, IsFirstPath}
use Rattle.path_union.specs.Reads.{IsDrawnInTime, IsTaken, first_beyond, is_past, up_to}
use Rattle.path_union.specs.Union.{rows_of_both}
use Rattle.path_union.specs.Walk.{row_at, stop_order, stops_of_both}
use Rattle.path_union.proofs.DrawingLemmas.{moved-path, same_order, timely-both}
use Rattle.path_union.proofs.MergeLemmas.{all-merge_of}
use Rattle.path_union.proofs.PathLemmas.{ascending-behind}

-- stops whose rows ascend ascend
stops-after : (object : ℕ) (stop : Stop) (stops : List Stop) (behind : List Row)
    → AllByRecursion (λ y. row_order (row_at object stop) y ≡ Less) (map (row_at object) stops ++ behind)
    → AllByRecursion (λ y. stop_order stop y ≡ Less) stops
stops-after object stop [] behind all = tt
stops-after object stop (next ∷ stops) behind all =
    (same_order object stop next ∙ all.0, stops-after object stop stops behind all.1)

pub stops-ascending : (object : ℕ) (stops : List Stop) (behind : List Row) → IsAscending (map (row_at object) stops ++ behind)
    → IsStrictlySortedBy stop_order stops
unfolding IsStrictlySortedBy
stops-ascending object [] behind up = tt
stops-ascending object (stop ∷ stops) behind up =
    (stops-after object stop stops behind up.0, stops-ascending object stops behind up.1)

less_from : (a b : ℤ) → int_cmp a b ≡ Less → a <ℤ b
less_from a b is = grind (arith, ints)

not_past : (instant : ℤ) (stop : Stop) → stop.instant <ℤ instant → is_past instant (Some stop) ≡ false
not_past instant stop before = grind (arith, ints)

-- a stop that is drawn before a place comes before the stop there
pub before-place : (drawn rest : List Stop) (stop : Stop) (place : ℕ) → IsStrictlySortedBy stop_order (drawn ++ stop ∷ rest)
    → length drawn < place → IfSome (slice_get (drawn ++ stop ∷ rest) place) (λ end. is_past end.instant (Some stop) ≡ false)
before-place drawn rest stop place up before = elim (slice_get_cases (drawn ++ stop ∷ rest) place).1 [
  | inl found ↦
      let end : Stop = found.0 in
      let here = get_or-append_seam drawn stop rest stop in
      let there = get_or_from_slice_get (drawn ++ stop ∷ rest) place end stop found.2 in
      let less = Less-from_sorted stop_order (drawn ++ stop ∷ rest) (length drawn) place stop up before found.1 in
      rw found.2 (not_past end.instant stop (less_from stop.instant end.instant (rw (here, there) at less)))
  | inr none ↦ rw none.1 tt
]

-- a draw, by what is read until a stop is passed, and in all
module _ (end result : Option Stop) (before now : ℤ → ℕ) (all left begun steps : ℕ)
    (in_time : IsDrawnInTime before now begun steps result) (cost : steps + left ≤ begun + all) where
  -- and the rest is still there where it was not met
  pub drawn-before : IfSome end (λ stop. is_past stop.instant result ≡ false)
      → steps + up_to (λ (stop : Stop). now stop.instant) left end ≤ begun + up_to (λ (stop : Stop). before stop.instant) all end
  drawn-before unmet = before_end end unmet
    where
      before_end : (end : Option Stop) → IfSome end (λ stop. is_past stop.instant result ≡ false)
          → steps + up_to (λ (stop : Stop). now stop.instant) left end ≤ begun + up_to (λ (stop : Stop). before stop.instant) all end
      before_end None unmet = cost
      before_end (Some stop) unmet =
          subst (λ met. steps + (if met then 0 else now stop.instant) ≤ begun + before stop.instant) unmet (in_time stop.instant)

-- a path that was taken as a whole, where the end is behind it
pub taken-before : (object all had left : ℕ) (past : ℤ → ℕ) (before now : Row → ℕ) (end : Option Row)
    → IsTaken object all past before now → all + left ≤ had → IfSome end (λ row. object < row.object)
    → all + up_to now left end ≤ up_to before had end
taken-before object all had left past before now None taken cost behind = cost
taken-before object all had left past before now (Some row) taken cost behind = taken.others row behind

-- what is known of the end where the next rows are those of an object's stops: it is one of these, or behind them
abbrev pub IsEnd : ℕ → List Stop → ℕ → Option Row → Type 0
IsEnd object stops room end = ((stop : Stop) × (slice_get stops room ≡ Some stop) × (end ≡ Some (row_at object stop)))
    ⊎ ((slice_get stops room ≡ None) × IfSome end (λ row. object < row.object))

-- rows of which the next are those of an object's stops, and then others of greater objects
module _ (object : ℕ) (rows behind : List Row) (stops : List Stop) (greater : All (λ row. object < row.object) behind)
    (room : ℕ) where
  abbrev all_rows : List Row
  all_rows = rows ++ (map (row_at object) stops ++ behind)

  -- the row at a place is that of one of the stops, or of a greater object, if there is one
  pub row-at_place : IsEnd object stops room (slice_get all_rows (length rows + room))
  row-at_place = elim (slice_get_cases stops room).1 [
    | inl found ↦
        let many = length-map stops (row_at object) in
        let within : room < length (map (row_at object) stops) = omega (arith, many, found.1) in
        inl (
          found.0,
          found.2,
          slice_get-append_add rows (map (row_at object) stops ++ behind) room
              ∙ slice_get-append_left (map (row_at object) stops) behind room within
              ∙ slice_get-map (row_at object) stops room ∙ ap (option_map (row_at object)) found.2,
        )
    | inr none ↦
        let many = length-map stops (row_at object) in
        let place : ℕ = room - length stops in
        let split : room ≡ length (map (row_at object) stops) + place = omega (arith, many, none.0) in
        let there : slice_get all_rows (length rows + room) ≡ slice_get behind place =
        slice_get-append_add rows (map (row_at object) stops ++ behind) room
        ∙ ap (slice_get (map (row_at object) stops ++ behind)) split
        ∙ slice_get-append_add (map (row_at object) stops) behind place in
        inr (
          none.1,
          rw there (elim (slice_get_cases behind place).1 [
            | inl row ↦ rw row.2 (subst (λ (x : Row). object < x.object) row.3 (greater place row.0 row.1))
            | inr nothing ↦ rw nothing.1 tt
          ]),
        )
  ]

-- the paths of an object were taken from both, and its stops were drawn until there are too many rows
module _ (object : ℕ) (stops : List Stop) (room : ℕ) (end : Option Row) (own_all other_all all : ℕ) (own_past other_past past : ℤ → ℕ)
    (later_had later_left older_had older_left : ℕ) (later_before later_now older_before older_now : Row → ℕ) (steps drawn : ℕ)
    (own : IsTaken object own_all own_past later_before later_now) (own_cost : own_all + later_left ≤ later_had)
    (other : IsTaken object other_all other_past older_before older_now) (other_cost : other_all + older_left ≤ older_had)
    (both : all ≡ own_all + other_all) (both_past : (instant : ℤ) → past instant ≡ own_past instant + other_past instant)
    (cost : drawn ≤ steps + up_to (λ (stop : Stop). past stop.instant) all (slice_get stops room))
    (met : IsEnd object stops room end) where
  past_end : (slice_get stops room ≡ None) → IfSome end (λ row. object < row.object)
      → drawn + (up_to older_now older_left end + up_to later_now later_left end)
      ≤ steps + (up_to older_before older_had end + up_to later_before later_had end)
  past_end none behind =
      let drew : drawn ≤ steps + all = rw none at cost in
      let one = taken-before object own_all later_had later_left own_past later_before later_now end own own_cost behind in
      let two = taken-before object other_all older_had older_left other_past older_before older_now end other other_cost behind in
      omega (arith, drew, one, two, both)

  -- all of them were, so the end is behind them
  pub path-before : length stops ≤ room → drawn + (up_to older_now older_left end + up_to later_now later_left end)
      ≤ steps + (up_to older_before older_had end + up_to later_before later_had end)
  path-before few = elim met [
    | inl here ↦ absurd (omega (arith, few, slice_get_within stops room here.0 here.1))
    | inr later ↦ past_end later.0 later.1
  ]

  -- or not
  pub path-within : drawn ≤ steps + (up_to older_before older_had end + up_to later_before later_had end)
  path-within = elim met [
    | inl here ↦
        let stop : Stop = here.0 in
        let drew : drawn ≤ steps + past stop.instant = rw here.1 at cost in
        let one = own.own (row_at object stop) refl in
        let two = other.own (row_at object stop) refl in
        rw here.2 (omega (arith, drew, one, two, both_past stop.instant))
    | inr later ↦ omega (arith, past_end later.0 later.1)
  ]

-- the rows of the next object, where those of both were drawn so far
module _ (older later : List Row) (older_left later_left rows : List Row) (moved : HasMoved older later older_left later_left rows)
    (object : ℕ) (own other : List Stop) (later_on older_on : List Row)
    (first : IsFirstPath object own later_left later_on) (also : IsFirstPath object other older_left older_on) where
  -- the first row that is one too many is one of them, or of a greater object
  pub moved-end : (limit : ℕ) → length rows ≤ limit
      → IsEnd object (stops_of_both own other) (limit - length rows) (first_beyond limit (rows_of_both older later))
  moved-end limit few =
      let stops : List Stop = stops_of_both own other in
      let behind : List Row = merge_of row_order later_on older_on in
      let all = sym (moved-path older later older_left later_left rows moved object own other later_on older_on first also).all
      ∙ append_assoc rows (map (row_at object) stops) behind in
      let greater = all-merge_of row_order (λ row. object < row.object) later_on older_on
      (recursion_from_All (λ row. object < row.object) later_on first.greater)
      (recursion_from_All (λ row. object < row.object) older_on also.greater) in
      let place : length rows + (limit - length rows) ≡ limit = omega (arith, few) in
      subst (λ n. IsEnd object stops (limit - length rows) (slice_get (rows_of_both older later) n)) place
      (subst (λ xs. IsEnd object stops (limit - length rows) (slice_get xs (length rows + (limit - length rows)))) (sym all)
      (row-at_place object rows behind stops (All-from_recursion (λ row. object < row.object) behind greater) (limit - length rows)))

-- stops whose rows are drawn ascend
pub moved-ascending : (older later : List Row) → AreTimely older → AreTimely later → (older_on later_on rows : List Row) (object : ℕ)
    (stops : List Stop) → HasMoved older later older_on later_on (rows ++ map (row_at object) stops) → IsStrictlySortedBy stop_order stops
moved-ascending older later up also older_on later_on rows object stops moved =
    let behind : List Row = merge_of row_order later_on older_on in
    let all = sym moved.all ∙ append_assoc rows (map (row_at object) stops) behind in
    stops-ascending object stops behind
    (ascending-behind rows (map (row_at object) stops ++ behind) (subst IsAscending all (timely-both older later up also).ascending))
