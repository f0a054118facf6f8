use Rattle.std.proofs.Common.{◌≡◌, ◌+◌, ◌<◌, ℕ, [], ◌∷◌, ◌++◌, List, arith, get_or, length, map, refl, take, ◌∙◌}
use Rattle.std.proofs.lemmas.List.{append-nil, get_or-map, length-map, take_all}
use Rattle.track_types.specs.declared.row.Row.{Row}
use Rattle.gridding.proofs.MergeLemmas.{no_place, placed-more}
use Rattle.gridding.specs.GriddedRows.{AreBlocksOf}
use Rattle.gridding.specs.PackedPlace.{HasPlace, packed_row}
use Rattle.gridding.specs.declared.packed_place.Origin.{Origin}
use Rattle.gridding.specs.declared.packed_place.PackedPlace.{PackedPlace}
use Rattle.gridding.specs.declared.track_blocks.TrackBlocks.{TrackBlocks}
use Rattle.gridding.proofs.track_blocks.TrackBlocks.add_run.Goals as goal

-- the row of one place more is there
one_more : (origin own : Origin) (object : ℕ) (rows : List Row) (places : List PackedPlace) (i : ℕ) (place : PackedPlace)
    (tracks : TrackBlocks) → i < length places →
    packed_row own object place ≡ packed_row origin object (get_or places i no_place) →
    AreBlocksOf ((rows ++ map (packed_row origin object) (take i places)) ++ (packed_row own object place ∷ [])) tracks →
    AreBlocksOf (rows ++ map (packed_row origin object) (take (i + 1) places)) tracks
one_more origin own object rows places i place tracks below is blocks =
    rw (placed-more origin object rows places i no_place below) at (rw is at blocks)

pub loop-place-init : goal.loop-place-init
loop-place-init c = record { blocks = λ rows blocks. rw (append-nil rows) blocks; origin = refl }

pub loop-place-preserved-then-put : goal.loop-place-preserved-then-put
loop-place-preserved-then-put c = record {
  blocks = λ rows blocks.
      one_more c.args.origin c.loop-place.self.origin c.args.object rows c.args.places.now c.loop-place.place-index
      c.in-Some.place c.put.new.self c.loop-place-test.true (rw c.row.ensures.row at c.in-Some.ensures.some)
      (c.put.ensures.put c.if-put.true _ (c.loop-place.invariant.blocks rows blocks));
  origin = c.put.ensures.origin ∙ c.loop-place.invariant.origin;
}

pub loop-place-preserved : goal.loop-place-preserved
loop-place-preserved c =
    let left = c.put.ensures.left_out c.if-put.false in
    record {
      blocks = λ rows blocks.
          let done : List Row = rows ++ map (packed_row c.args.origin c.args.object) (take c.loop-place.place-index c.args.places.now) in
          let before : AreBlocksOf done c.put.new.self = rw left (c.loop-place.invariant.blocks rows blocks) in
          one_more c.args.origin c.loop-place.self.origin c.args.object rows c.args.places.now c.loop-place.place-index
          c.in-Some.place c.put_known.new.self c.loop-place-test.true (rw c.row.ensures.row at c.in-Some.ensures.some)
          (rw left at (c.in_ok-put_known.ensures.put done before));
      origin = c.in_ok-put_known.ensures.origin ∙ c.put.ensures.origin ∙ c.loop-place.invariant.origin;
    }

-- a place of which the row has none from the origin of the blocks
pub returns-in_default-clause-far : goal.returns-in_default-clause-far
returns-in_default-clause-far c = λ _ all.
    let f : PackedPlace → Row = packed_row c.args.origin c.args.object in
    let places : List PackedPlace = c.args.places.now in
    let i = c.loop-place.place-index in
    let row : Row = f (get_or places i no_place) in
    let within : i < length (map f places) = omega (arith, length-map places f, c.loop-place-test.true) in
    let own : HasPlace c.args.self.now.origin row = rw (get_or-map f places i no_place row c.loop-place-test.true) at (all i row within) in
    (rw (c.row.ensures.row, c.loop-place.invariant.origin) at c.in_default.ensures.none) own

pub returns-clause-put : goal.returns-clause-put
returns-clause-put c = λ _ rows blocks.
    rw (take_all c.loop-place.place-index c.args.places.now c.loop-place-test.false) at (c.loop-place.invariant.blocks rows blocks)
