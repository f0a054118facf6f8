-- Chunks and the rows in them, and the hits that are found in rows one by one.
use Rattle.std.proofs.Common.{◌≡◌, ◌≤ℤ◌, ℕ, zero, suc, ℤ, Bool, true, false, List, [], ◌∷◌, ◌++◌, All, refl, sym, subst, ◌∙◌, arith, inl, inr}
use Rattle.std.specs.Prelude.{◌||◌, ◌↔◌, slice_get}
use Rattle.std.specs.Int.{int_max, int_min}
use Rattle.std.specs.List.{Contains, list_any}
use Rattle.std.proofs.lemmas.Bool.{and_parts, cases_Bool}
use Rattle.std.proofs.lemmas.Int.{clamps, ints}
use Rattle.std.proofs.lemmas.List.Elements.{All-contains, All-nil, All-push, All-weaker, Contains-append_cases, Contains-append_left, Contains-push}
use Rattle.std.proofs.lemmas.List.Folds.{list_any-append}
use Rattle.list_laws.proofs.MemberLemmas.{Contains-filter, member_cases, member_of_filter, no_member}
use Rattle.track_types.specs.Boxes.{cell_box, joined_box}
use Rattle.track_types.specs.ByFilter.{hit_of, is_hit}
use Rattle.track_types.specs.Near.{IsBoxWithin, IsCellWithin, IsWithin}
use Rattle.track_types.specs.Region.{in_box, in_region, intersects_region, is_between, overlaps}
use Rattle.track_types.specs.declared.cell.Cell.{Cell}
use Rattle.track_types.specs.declared.hit.Hit.{Hit}
use Rattle.track_types.specs.declared.region.Region.{Region}
use Rattle.track_types.specs.declared.row.Row.{Row}
use Rattle.track_types.proofs.RegionLemmas.{in_box-bounds, in_box-from, intersects_region-exact}
use Rattle.live_tail.specs.Chunks.{IsChunkOf, chunk_of, chunk_with, is_in, may_have}
use Rattle.live_tail.specs.Cost.{rows_between}
use Rattle.live_tail.specs.Hits.{HaveFirst, is_no_later, is_passed}
use Rattle.live_tail.specs.declared.chunk.Chunk.{Chunk}
use Rattle.live_tail.proofs.FirstLemmas.{later_from}

-- a row's own chunk has it
between-own : (z : ℤ) → is_between z z z ≡ true
between-own z = grind (arith, ints)

-- bounds that reach further
between-wider : (low high first last z : ℤ) → first ≤ℤ low → high ≤ℤ last → is_between low high z ≡ true → is_between first last z ≡ true
between-wider low high first last z below above is = grind (arith, ints)

-- a chunk has its one row, and with one more all its rows
within-own : (cell : Cell) → IsCellWithin cell → IsBoxWithin (cell_box cell)
within-own cell near = record {
  x1 = near.x;
  y1 = near.y;
  x2 = record { low = omega (arith, ints, near.x.low); high = omega (arith, ints, near.x.high) };
  y2 = record { low = omega (arith, ints, near.y.low); high = omega (arith, ints, near.y.high) };
}

own-in : (row : Row) → is_in (chunk_of row) row ≡ true
own-in row =
    rw (
      between-own row.instant,
      in_box-from (cell_box row.cell) row.cell (record {
        left = omega (arith, ints);
        right = omega (arith, ints);
        below = omega (arith, ints);
        above = omega (arith, ints);
      }),
    ) refl

pub chunk-one : (row : Row) → IsCellWithin row.cell → IsChunkOf (row ∷ []) (chunk_of row)
chunk-one row near = record {
  near = within-own row.cell near;
  has = All-push (λ z. is_in (chunk_of row) z ≡ true) [] row (All-nil (λ z. is_in (chunk_of row) z ≡ true)) (own-in row);
}

within-min : (a b : ℤ) → IsWithin a → IsWithin b → IsWithin (int_min a b)
within-min a b one other = record {
  low = omega (arith, ints, clamps, one.low, other.low);
  high = omega (arith, ints, clamps, one.high, other.high);
}

within-max : (a b : ℤ) → IsWithin a → IsWithin b → IsWithin (int_max a b)
within-max a b one other = record {
  low = omega (arith, ints, clamps, one.low, other.low);
  high = omega (arith, ints, clamps, one.high, other.high);
}

stays-in : (chunk : Chunk) (row other : Row) → is_in chunk other ≡ true → is_in (chunk_with chunk row) other ≡ true
stays-in chunk row other is =
    let parts = and_parts (is_between chunk.time.least chunk.time.greatest other.instant) (in_box chunk.area other.cell) is in
    let box = in_box-bounds chunk.area other.cell parts.1 in
    rw (
      between-wider chunk.time.least chunk.time.greatest (int_min chunk.time.least row.instant) (int_max chunk.time.greatest row.instant) other.instant
          (omega (arith, ints, clamps)) (omega (arith, ints, clamps)) parts.0,
      in_box-from (joined_box chunk.area (cell_box row.cell)) other.cell (record {
        left = omega (arith, ints, clamps, box.left);
        right = omega (arith, ints, clamps, box.right);
        below = omega (arith, ints, clamps, box.below);
        above = omega (arith, ints, clamps, box.above);
      }),
    ) refl

comes-in : (chunk : Chunk) (row : Row) → is_in (chunk_with chunk row) row ≡ true
comes-in chunk row =
    rw (
      between-wider row.instant row.instant (int_min chunk.time.least row.instant) (int_max chunk.time.greatest row.instant) row.instant
          (omega (arith, ints, clamps)) (omega (arith, ints, clamps)) (between-own row.instant),
      in_box-from (joined_box chunk.area (cell_box row.cell)) row.cell (record {
        left = omega (arith, ints, clamps);
        right = omega (arith, ints, clamps);
        below = omega (arith, ints, clamps);
        above = omega (arith, ints, clamps);
      }),
    ) refl

pub chunk-more : (rows : List Row) (chunk : Chunk) (row : Row) → IsChunkOf rows chunk → IsCellWithin row.cell →
    IsChunkOf (rows ++ row ∷ []) (chunk_with chunk row)
chunk-more rows chunk row is near =
    let own = within-own row.cell near in
    record {
      near = record {
        x1 = within-min chunk.area.x1 row.cell.x is.near.x1 own.x1;
        y1 = within-min chunk.area.y1 row.cell.y is.near.y1 own.y1;
        x2 = within-max chunk.area.x2 (cell_box row.cell).x2 is.near.x2 own.x2;
        y2 = within-max chunk.area.y2 (cell_box row.cell).y2 is.near.y2 own.y2;
      };
      has = All-push (λ z. is_in (chunk_with chunk row) z ≡ true) rows row
          (All-weaker (λ z. is_in chunk z ≡ true) (λ z. is_in (chunk_with chunk row) z ≡ true) (stays-in chunk row) rows is.has)
          (comes-in chunk row);
    }

within-between : (low high z : ℤ) → IsWithin low → IsWithin high → is_between low high z ≡ true → IsWithin z
within-between low high z one other is = record { low = grind (arith, ints, one.low); high = grind (arith, ints, other.high) }

-- the cells of a chunk's rows are near
pub near-in : (chunk : Chunk) (row : Row) → IsBoxWithin chunk.area → is_in chunk row ≡ true → IsCellWithin row.cell
near-in chunk row near is =
    let parts = and_parts (is_between chunk.time.least chunk.time.greatest row.instant) (in_box chunk.area row.cell) is in
    let box = and_parts (is_between chunk.area.x1 chunk.area.x2 row.cell.x) (is_between chunk.area.y1 chunk.area.y2 row.cell.y) parts.1 in
    record {
      x = within-between chunk.area.x1 chunk.area.x2 row.cell.x near.x1 near.x2 box.0;
      y = within-between chunk.area.y1 chunk.area.y2 row.cell.y near.y1 near.y2 box.1;
    }

pub near-chunk : (rows : List Row) (chunk : Chunk) → IsChunkOf rows chunk → All (λ (row : Row). IsCellWithin row.cell) rows
near-chunk rows chunk is =
    All-weaker (λ row. is_in chunk row ≡ true) (λ (row : Row). IsCellWithin row.cell) (λ row. near-in chunk row is.near) rows is.has

overlap : (from to first last z : ℤ) → is_between from to z ≡ true → is_between first last z ≡ true → overlaps from to first last ≡ true
overlap from to first last z one other = grind (arith, ints, clamps)

-- a chunk that cannot have a row in the window and the region has none
pub none-in : (from to : ℤ) (region : Region) (chunk : Chunk) (row : Row) → may_have from to region chunk ≡ false → is_in chunk row ≡ true →
    is_hit from to region row ≡ false
none-in from to region chunk row passed is = elim (cases_Bool (is_hit from to region row)) [
  | inl meets ↦
      let parts = and_parts (is_between chunk.time.least chunk.time.greatest row.instant) (in_box chunk.area row.cell) is in
      let hit = and_parts (is_between from to row.instant) (in_region region row.cell) meets in
      let time : overlaps from to chunk.time.least chunk.time.greatest ≡ true = overlap from to chunk.time.least chunk.time.greatest row.instant hit.0 parts.0 in
      let area : intersects_region region chunk.area ≡ true = (intersects_region-exact region chunk.area).1 (row.cell, parts.1, hit.1) in
      let may : may_have from to region chunk ≡ true = rw (time, area) refl in
      absurd (cc)
  | inr none ↦ none
]

or_true : (a b : Bool) → b ≡ true → (a || b) ≡ true
or_true a b is = grind (arith)

or_first : (a b : Bool) → a ≡ true → (a || b) ≡ true
or_first a b is = grind (arith)

module _ (from to : ℤ) (region : Region) where
  abbrev enough : List Row → List Hit → Type 0
  enough rows hits = HaveFirst rows from to region hits

  -- one row more: where it is a hit, one of its object that is no later is there
  pub have-more : (rows : List Row) (row : Row) (hits : List Hit) → enough rows hits →
      (is_hit from to region row ≡ true → list_any (is_no_later row) hits ≡ true) → enough (rows ++ row ∷ []) hits
  have-more rows row hits have is = record {
    are = λ hit inside.
        let of = have.are hit inside in
        record { row = of.row; inside = Contains-append_left rows (row ∷ []) of.row of.inside; meets = of.meets; is = of.is };
    first = λ other inside meets. elim (Contains-append_cases rows (row ∷ []) other inside) [
      | inl before ↦ have.first other before meets
      | inr last ↦ elim (member_cases other row [] last) [
        | inl same ↦ subst (λ z. list_any (is_no_later z) hits ≡ true) same (is (subst (λ z. is_hit from to region z ≡ true) (sym same) meets))
        | inr none ↦ no_member other none
      ]
    ];
  }

  own_later : (row : Row) → is_no_later row (hit_of row) ≡ true
  own_later row = later_from row.object row.object row.instant row.instant refl (omega (arith, ints))

  -- one that is a hit, and is put to the others
  pub have-pushed : (rows : List Row) (row : Row) (hits : List Hit) → enough rows hits → is_hit from to region row ≡ true →
      enough (rows ++ row ∷ []) (hits ++ hit_of row ∷ [])
  have-pushed rows row hits have meets =
      let put : List Hit = hits ++ hit_of row ∷ [] in
      let more : enough rows hits → enough (rows ++ row ∷ []) put = λ _. record {
        are = λ hit inside. elim (Contains-append_cases hits (hit_of row ∷ []) hit inside) [
          | inl before ↦
              let of = have.are hit before in
              record { row = of.row; inside = Contains-append_left rows (row ∷ []) of.row of.inside; meets = of.meets; is = of.is }
          | inr last ↦ elim (member_cases hit (hit_of row) [] last) [
            | inl same ↦ record { row = row; inside = Contains-push rows row; meets = meets; is = same }
            | inr none ↦ no_member hit none
          ]
        ];
        first = λ other inside also. list_any-append (is_no_later other) hits (hit_of row ∷ [])
            ∙ elim (Contains-append_cases rows (row ∷ []) other inside) [
              | inl before ↦ or_first _ _ (have.first other before also)
              | inr last ↦ elim (member_cases other row [] last) [
                | inl same ↦ or_true _ _ (or_first _ _ (subst (λ z. is_no_later z (hit_of row) ≡ true) same (own_later row)))
                | inr none ↦ no_member other none
              ]
            ];
      } in
      more have

  -- rows of which none is a hit
  pub have-passed : (rows others : List Row) (hits : List Hit) → enough rows hits →
      ((row : Row) → Contains others row → is_hit from to region row ≡ false) → enough (rows ++ others) hits
  have-passed rows others hits have none = record {
    are = λ hit inside.
        let of = have.are hit inside in
        record { row = of.row; inside = Contains-append_left rows others of.row of.inside; meets = of.meets; is = of.is };
    first = λ row inside meets. elim (Contains-append_cases rows others row inside) [
      | inl before ↦ have.first row before meets
      | inr later ↦ let never : is_hit from to region row ≡ false = none row later in absurd (cc)
    ];
  }

  -- those of a chunk that cannot have one
  pub have-without : (rows others : List Row) (chunk : Chunk) (hits : List Hit) → enough rows hits → IsChunkOf others chunk →
      may_have from to region chunk ≡ false → enough (rows ++ others) hits
  have-without rows others chunk hits have is passed =
      have-passed rows others hits have (λ row inside.
      none-in from to region chunk row passed (All-contains (λ z. is_in chunk z ≡ true) others row is.has inside))

  pub have-none : enough [] []
  have-none = record { are = λ hit inside. no_member hit inside; first = λ row inside meets. no_member row inside }

-- the last hit is among the hits
pub passed-any : (row : Row) (hits : List Hit) (i : ℕ) → is_passed row (slice_get hits i) ≡ true → list_any (is_no_later row) hits ≡ true
passed-any row [] i passed = absurd (cc)
passed-any row (hit ∷ hits) zero passed = rw passed refl
passed-any row (hit ∷ hits) (suc i) passed = or_true (is_no_later row hit) (list_any (is_no_later row) hits) (passed-any row hits i passed)

-- the rows of a window have its hits
pub have-window : (rows between : List Row) (from to : ℤ) (region : Region) (hits : List Hit) →
    ((row : Row) → Contains between row ↔ Contains (rows_between rows from to) row) →
    HaveFirst between from to region hits → HaveFirst rows from to region hits
have-window rows between from to region hits same have =
    let test : Row → Bool = λ row. is_between from to row.instant in
    record {
      are = λ hit inside.
          let of = have.are hit inside in
          record { row = of.row; inside = (member_of_filter test rows of.row ((same of.row).0 of.inside)).0; meets = of.meets; is = of.is };
      first = λ row inside meets.
          let parts = and_parts (is_between from to row.instant) (in_region region row.cell) meets in
          have.first row ((same row).1 (Contains-filter test rows row parts.0 inside)) meets;
    }
