-- How many objects rows in order have: an object's rows stand together, so that it is how often they go on to another one.
use Rattle.std.proofs.Common.{◌≡◌, ℕ, suc, ◌+◌, ◌≤◌, ◌<◌, Bool, true, false, List, [], ◌∷◌, ◌++◌, length, map, Option, Some, None, refl, ◌∙◌, ap, arith}
use Rattle.std.specs.Prelude.{pos, fold, if◌then◌else◌, ◌==◌}
use Rattle.std.specs.List.{AllByRecursion, list_any}
use Rattle.std.specs.List.Sorted.{IsStrictlySortedBy}
use Rattle.std.specs.declared.cmp.Ordering.TheVariants.{Less}
use Rattle.std.proofs.lemmas.Bool.Decides.{nat_tests}
use Rattle.track_types.proofs.RowLemmas.{object_le}
use Rattle.track_types.specs.Quantities.{distinct, object_count}
use Rattle.track_types.specs.Row.{IsAscending, row_order}
use Rattle.track_types.specs.declared.row.Row.{Row}
use Rattle.gridding.specs.Survey.{is_object_of, last_object}

-- what an index past the end reads
abbrev pub no_row : Row
no_row = record { object = 0; instant = pos 0; cell = record { x = pos 0; y = pos 0 } }

-- how often rows go on to another object
object_changes : Option ℕ → List Row → ℕ
object_changes before [] = 0
object_changes before (row ∷ rest) = (if is_object_of before row.object then 0 else 1) + object_changes (Some row.object) rest

-- no row after one of a greater object has a smaller one
none_after : (object : ℕ) (row : Row) (rest : List Row) → object < row.object →
    AllByRecursion (λ y. row_order row y ≡ Less) rest →
    list_any (λ y. object == y) (map (λ y. y.object) rest) ≡ false
none_after object row [] below all = refl
none_after object row (y ∷ rest) below all = grind (arith, none_after object row rest below all.1)

-- the runs of rows in order are those of the different objects
changes_at : (row next : Row) (rest : List Row) (same : Bool) → (row.object == next.object) ≡ same →
    IsAscending (row ∷ next ∷ rest) →
    1 + object_changes (Some next.object) rest ≡ length (distinct (map (λ y. y.object) (next ∷ rest))) →
    1 + object_changes (Some row.object) (next ∷ rest) ≡ length (distinct (map (λ y. y.object) (row ∷ next ∷ rest)))
unfolding object_changes distinct IsStrictlySortedBy
changes_at row next rest true same up behind = grind arith
changes_at row next rest false same up behind =
    let before : row.object ≤ next.object = object_le row next up.0.0 in
    let below : row.object < next.object = grind (arith, nat_tests) in
    let new : list_any (λ y. row.object == y) (map (λ y. y.object) rest) ≡ false = none_after row.object next rest below up.1.0 in
    let one : 1 + (1 + object_changes (Some next.object) rest) ≡ suc (1 + object_changes (Some next.object) rest) = omega arith in
    rw (same, new) (one ∙ ap suc behind)

changes_from : (row : Row) (rest : List Row) → IsAscending (row ∷ rest) →
    1 + object_changes (Some row.object) rest ≡ length (distinct (map (λ y. y.object) (row ∷ rest)))
unfolding object_changes distinct IsStrictlySortedBy
changes_from row [] up = refl
changes_from row (next ∷ rest) up = changes_at row next rest (row.object == next.object) refl up (changes_from next rest up.1)

-- rows in order have as many runs as different objects
object_changes-ascending : (rows : List Row) → IsAscending rows → object_changes None rows ≡ object_count rows
unfolding object_changes distinct
object_changes-ascending [] up = refl
object_changes-ascending (row ∷ rest) up = changes_from row rest up

-- there are not more runs than rows
le_one : (b : Bool) → (if b then 0 else 1) ≤ 1
le_one true = omega arith
le_one false = omega arith

object_changes-le : (before : Option ℕ) (rows : List Row) → object_changes before rows ≤ length rows
unfolding object_changes
object_changes-le before [] = omega arith
object_changes-le before (row ∷ rest) =
    omega (arith, le_one (is_object_of before row.object), object_changes-le (Some row.object) rest)

-- one row more
object_changes-more : (before : Option ℕ) (rows : List Row) (row : Row) →
    object_changes before (rows ++ row ∷ [])
    ≡ object_changes before rows
    + (if is_object_of (fold (λ _ other. Some other.object) before rows) row.object then 0 else 1)
unfolding object_changes
object_changes-more before [] row = omega arith
object_changes-more before (other ∷ rows) row = rw (object_changes-more (Some other.object) rows row) (omega arith)

below_front : (row : Row) (rows back : List Row) → AllByRecursion (λ y. row_order row y ≡ Less) (rows ++ back) →
    AllByRecursion (λ y. row_order row y ≡ Less) rows
below_front row [] back all = tt
below_front row (y ∷ rows) back all = (all.0, below_front row rows back all.1)

-- the first of rows in order are in order
pub IsAscending-front : (rows back : List Row) → IsAscending (rows ++ back) → IsAscending rows
unfolding IsStrictlySortedBy
IsAscending-front [] back up = tt
IsAscending-front (row ∷ rows) back up = (below_front row rows back up.0, IsAscending-front rows back up.1)

-- a row after others in order has another object than all of them where the row before it has
pub object_count-more : (rows : List Row) (row : Row) → IsAscending (rows ++ row ∷ []) →
    object_count (rows ++ row ∷ []) ≡ object_count rows + (if is_object_of (last_object rows) row.object then 0 else 1)
object_count-more rows row up = grind (arith, nat_tests, object_changes-ascending, object_changes-more, IsAscending-front)

-- there are not more objects than rows
pub object_count-le : (rows : List Row) → IsAscending rows → object_count rows ≤ length rows
object_count-le rows up = omega (arith, object_changes-ascending rows up, object_changes-le None rows)
