use Rattle.std.proofs.Common.{◌≡◌, ℕ, ◌-◌, ◌<◌, List, length, arith, sym, ◌∙◌, subst}
use Rattle.std.specs.List.{range_with_len}
use Rattle.std.proofs.lemmas.List.Elements.{All-nil, All-weaker}
use Rattle.std.proofs.lemmas.List.{get_or_default}
use Rattle.track_types.specs.Boxes.{joined_box}
use Rattle.track_types.specs.declared.cell_box.CellBox.{CellBox}
use Rattle.k2_tree.specs.Areas.{IsBoxInside}
use Rattle.k2_tree.proofs.InsideLemmas.{inside-inside, inside-joined, inside-self}
use Rattle.box_tree.specs.Places.{box_at, no_box}
use Rattle.box_tree.proofs.MakingLemmas.{All-range_more, box-from, box-near, joined-from, joined-near}
use Rattle.box_tree.proofs.building.round.Goals as goal

pub loop-place-init : goal.loop-place-init
loop-place-init c =
    let low : ℕ = c.args.low in
    let none : low - low ≡ 0 = omega arith in
    let within : low < length c.args.boxes.now = omega arith in
    let same : box_at c.args.boxes.now low ≡ c.index-boxes-low.result =
    get_or_default c.args.boxes.now low no_box c.index-boxes-low.result within ∙ sym c.index-boxes-low.is in
    record {
      covers = All-range_more (λ place. IsBoxInside (box_at c.args.boxes.now place) c.index-boxes-low.result) low low
          (omega arith) (rw none
          (All-nil (λ place. IsBoxInside (box_at c.args.boxes.now place) c.index-boxes-low.result)))
          (subst (λ b. IsBoxInside b c.index-boxes-low.result) (sym same) (inside-self c.index-boxes-low.result));
      within = box-near c.args.boxes.now low c.index-boxes-low.result within c.index-boxes-low.is c.requires.near;
      from = λ base all. box-from base c.args.boxes.now low c.index-boxes-low.result within c.index-boxes-low.is all;
    }

pub loop-place-preserved : goal.loop-place-preserved
loop-place-preserved c =
    let boxes : List CellBox = c.args.boxes.now in
    let place : ℕ = c.loop-place.place in
    let area : CellBox = c.loop-place.area in
    let next : CellBox = c.index-boxes-place.result in
    let within : place < length boxes = omega arith in
    let same : box_at boxes place ≡ next =
    get_or_default boxes place no_box next within ∙ sym c.index-boxes-place.is in
    let both = inside-joined area next in
    rw c.joined-area.ensures (record {
      covers = All-range_more (λ p. IsBoxInside (box_at boxes p) (joined_box area next)) c.args.low place (omega arith)
          (All-weaker (λ p. IsBoxInside (box_at boxes p) area) (λ p. IsBoxInside (box_at boxes p) (joined_box area next))
          (λ p its. inside-inside (box_at boxes p) area (joined_box area next) its both.0)
          (range_with_len c.args.low (place - c.args.low)) c.loop-place.invariant.covers)
          (subst (λ b. IsBoxInside b (joined_box area next)) (sym same) both.1);
      within = joined-near area next c.loop-place.invariant.within
          (box-near boxes place next within c.index-boxes-place.is c.requires.near);
      from = λ base all. joined-from base area next (c.loop-place.invariant.from base all)
          (box-from base boxes place next within c.index-boxes-place.is all);
    })

pub returns-clause-covers : goal.returns-clause-covers
returns-clause-covers c =
    let end : c.loop-place.place ≡ c.args.high = omega arith in rw end at c.loop-place.invariant.covers
