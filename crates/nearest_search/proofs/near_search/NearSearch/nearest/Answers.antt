use Rattle.std.proofs.Common.{◌≡◌, ℕ, true, List, ◌∷◌, take, refl, sym, ap, subst, ◌∙◌, arith}
use Rattle.std.specs.Prelude.{IfOk}
use Rattle.std.specs.List.{filter_map}
use Rattle.std.specs.BinaryHeap.{heap_items}
use Rattle.std.proofs.lemmas.List.Sorted.{sum_by_popped}
use Rattle.std.proofs.lemmas.List.Sums.{sum_by-cons}
use Rattle.list_laws.specs.Ordered.{ordered}
use Rattle.track_types.specs.ByFilter.{near_order}
use Rattle.track_types.specs.declared.near.Near.{Near}
use Rattle.nearest_search.specs.Cost.{is_no_farther, last_answer}
use Rattle.nearest_search.specs.Kept.{ClosestView}
use Rattle.nearest_search.specs.Seeking.{near_at, near_squares, quest_of, square_in, waiting_turns, worth_left, AreSeeking}
use Rattle.nearest_search.specs.declared.waiting.Element.{Element}
use Rattle.nearest_search.specs.declared.waiting.Waiting.{Waiting}
use Rattle.nearest_search.proofs.SearchLemmas.{nears-none, nears-some, seeking-apart, seeking-beyond, seeking-end, seeking-enough}
use Rattle.nearest_search.proofs.SearchLemmas.{seeking-known, seeking-moved, seeking-node, seeking-opened, seeking-paid, seeking-sought}
use Rattle.nearest_search.proofs.near_search.NearSearch.nearest.Given.{Over}
use Rattle.nearest_search.proofs.near_search.NearSearch.nearest.Goals as goal
use Rattle.nearest_search.proofs.near_search.NearSearch.nearest.Goals.{After-has_room_for}

-- what was taken stands in front of what is left
moved : (g : Over) (c : After-has_room_for g)
    → AreSeeking (quest_of c.args.self.now) c.args.count c.args.steps.now
    (c.in-Some.taken ∷ heap_items c.take.new.self.heap) c.loop-taken.closest c.loop-taken.steps
moved g c =
    seeking-moved (quest_of c.args.self.now) c.requires.search.is c.args.count c.requires.some c.args.steps.now
    c.loop-taken.steps c.loop-taken.closest (heap_items c.loop-taken.queue.heap)
    (c.in-Some.taken ∷ heap_items c.take.new.self.heap) c.in-Some.ensures.moved c.loop-taken.invariant

-- the call told whether it is near enough
told : (g : Over) (c : After-has_room_for g)
    → is_no_farther (last_answer c.args.count c.loop-taken.closest.nears) c.in-Some.taken.key ≡ c.has_room_for.result
told g c =
    sym (ap (λ k. is_no_farther (last_answer k c.loop-taken.closest.nears) c.in-Some.taken.key) c.loop-taken.invariant.wanted)
    ∙ sym c.has_room_for.ensures

-- and where it is, its square passes
passes : (g : Over) (c : After-has_room_for g) (waiting : Waiting) → c.has_room_for.result ≡ true
    → c.in-Some.taken.waiting ≡ waiting
    → near_squares (quest_of c.args.self.now) c.args.count (square_in (quest_of c.args.self.now) waiting) ≡ true
passes g c waiting holds waits =
    ap (λ w. near_squares (quest_of c.args.self.now) c.args.count (square_in (quest_of c.args.self.now) w)) (sym waits)
    ∙ seeking-enough _ c.requires.search.is _ c.requires.some _ _ _ _ _ (moved g c) c.in-Some.ensures.least (told g c ∙ holds)

pub returns-then-not-has_room_for-clause-ok : goal.returns-then-not-has_room_for-clause-ok
returns-then-not-has_room_for-clause-ok g c =
    let at = (goal.at.returns-then-not-has_room_for-clause-ok g c).After-has_room_for in
    subst (λ (ns : List Near). IfOk c.into_vec.result (λ found. found.items ≡ ns))
    (seeking-beyond _ c.requires.search.is _ c.requires.some _ _ _ _ _ (moved g at) c.in-Some.ensures.least
    (told g at ∙ c.if-not-has_room_for.true)) c.into_vec.ensures

pub returns-then-not-has_room_for-clause-cost : goal.returns-then-not-has_room_for-clause-cost
returns-then-not-has_room_for-clause-cost g c =
    let paid = seeking-paid _ c.requires.search.is _ c.requires.some _ _ _ _ c.loop-taken.invariant in
    omega (arith, paid)

pub open-requires-clause-node : goal.open-requires-clause-node
open-requires-clause-node g c =
    let at = (goal.at.open-requires-clause-node g c).After-has_room_for in
    seeking-node _ c.requires.search.is _ c.requires.some _ _ _ _ _ (moved g at) c.in-Node.node c.in-Node.is

pub loop-taken-smaller-in-Continue-branch-2 : goal.loop-taken-smaller-in-Continue-branch-2
loop-taken-smaller-in-Continue-branch-2 g c =
    omega (
      arith,
      c.in_ok-open-in-Node.ensures.opened.turns,
      sum_by_popped (λ (e : Element). waiting_turns (quest_of c.args.self.now) e.waiting) c.in-Some.taken
          (heap_items c.loop-taken.queue.heap) (heap_items c.take.new.self.heap) c.in-Some.ensures.moved,
      ap (waiting_turns (quest_of c.args.self.now)) c.in-Node.is,
    )

pub loop-taken-preserved-in-Continue-branch-2 : goal.loop-taken-preserved-in-Continue-branch-2
loop-taken-preserved-in-Continue-branch-2 g c =
    let at = (goal.at.loop-taken-preserved-in-Continue-branch-2 g c).After-has_room_for in
    seeking-opened _ c.requires.search.is _ c.requires.some _ _ _ _ _ (moved g at) c.in-Node.node
    (heap_items c.open.new.queue.heap) c.open.new.steps c.in-Node.is
    (passes g at _ c.if-not-has_room_for.false c.in-Node.is) c.in_ok-open-in-Node.ensures.opened
    c.in_ok-open-in-Node.ensures.paid

pub returns-in_err-open-in-Node-clause-cost : goal.returns-in_err-open-in-Node-clause-cost
returns-in_err-open-in-Node-clause-cost g c =
    let at = (goal.at.returns-in_err-open-in-Node-clause-cost g c).After-has_room_for in
    let test = near_squares (quest_of c.args.self.now) c.args.count in
    let reads : Element → ℕ = λ (e : Element). worth_left (quest_of c.args.self.now) test e.waiting in
    let paid = seeking-paid _ c.requires.search.is _ c.requires.some _ _ _ _ (moved g at) in
    let most = c.open.ensures.cost test (passes g at _ c.if-not-has_room_for.false c.in-Node.is) in
    omega (
      arith,
      paid,
      most,
      sum_by-cons reads c.in-Some.taken (heap_items c.take.new.self.heap),
      ap (worth_left (quest_of c.args.self.now) test) c.in-Node.is,
    )

pub near-requires-clause-place : goal.near-requires-clause-place
near-requires-clause-place g c =
    let at = (goal.at.near-requires-clause-place g c).After-has_room_for in
    seeking-known _ c.requires.search.is _ c.requires.some _ _ _ _ _ (moved g at) c.in-Place.place c.in-Place.is

pub offer-requires : goal.offer-requires
offer-requires g c =
    let at = (goal.at.offer-requires g c).After-has_room_for in
    record {
      apart = seeking-apart _ c.requires.search.is _ c.requires.some _ _ _ _ _ (moved g at) c.in-Place.place
          c.in-Some-near.near c.in-Place.is (sym c.near.ensures.value ∙ c.in-Some-near.is);
    }

pub loop-taken-smaller-in-Continue-branch-3 : goal.loop-taken-smaller-in-Continue-branch-3
loop-taken-smaller-in-Continue-branch-3 g c =
    omega (
      arith,
      sum_by_popped (λ (e : Element). waiting_turns (quest_of c.args.self.now) e.waiting) c.in-Some.taken
          (heap_items c.loop-taken.queue.heap) (heap_items c.take.new.self.heap) c.in-Some.ensures.moved,
      ap (waiting_turns (quest_of c.args.self.now)) c.in-Place.is,
    )

pub loop-taken-preserved-in-Continue-branch-3 : goal.loop-taken-preserved-in-Continue-branch-3
loop-taken-preserved-in-Continue-branch-3 g c =
    let at = (goal.at.loop-taken-preserved-in-Continue-branch-3 g c).After-has_room_for in
    seeking-sought _ c.requires.search.is _ c.requires.some _ _ _ _ _ (moved g at) c.in-Place.place
    c.offer.new.self c.near.new.steps c.in-Place.is (passes g at _ c.if-not-has_room_for.false c.in-Place.is)
    c.near.ensures.cost (c.in_ok-offer-in-Place.ensures.wanted ∙ c.loop-taken.invariant.wanted)
    (nears-some _ c.requires.search.is _ c.requires.some _ _ _ _ _ (moved g at) c.in-Place.place
    c.in-Some-near.near c.offer.new.self.nears (sym c.near.ensures.value ∙ c.in-Some-near.is) c.in_ok-offer-in-Place.ensures.nears)

pub returns-in_err-offer-in-Place-clause-cost : goal.returns-in_err-offer-in-Place-clause-cost
returns-in_err-offer-in-Place-clause-cost g c =
    let at = (goal.at.returns-in_err-offer-in-Place-clause-cost g c).After-has_room_for in
    let next : ClosestView = record {
      wanted = c.args.count;
      nears = take c.args.count (ordered near_order
          (filter_map (near_at (quest_of c.args.self.now)) (c.in-Place.place ∷ (moved g at).sought)));
    } in
    let seeking = seeking-sought _ c.requires.search.is _ c.requires.some _ _ _ _ _ (moved g at) c.in-Place.place
    next c.near.new.steps c.in-Place.is (passes g at _ c.if-not-has_room_for.false c.in-Place.is) c.near.ensures.cost refl refl in
    let paid = seeking-paid _ c.requires.search.is _ c.requires.some _ _ _ _ seeking in
    omega (arith, paid)

pub loop-taken-smaller : goal.loop-taken-smaller
loop-taken-smaller g c =
    omega (
      arith,
      sum_by_popped (λ (e : Element). waiting_turns (quest_of c.args.self.now) e.waiting) c.in-Some.taken
          (heap_items c.loop-taken.queue.heap) (heap_items c.take.new.self.heap) c.in-Some.ensures.moved,
      ap (waiting_turns (quest_of c.args.self.now)) c.in-Place.is,
    )

pub loop-taken-preserved : goal.loop-taken-preserved
loop-taken-preserved g c =
    let at = (goal.at.loop-taken-preserved g c).After-has_room_for in
    seeking-sought _ c.requires.search.is _ c.requires.some _ _ _ _ _ (moved g at) c.in-Place.place
    c.loop-taken.closest c.near.new.steps c.in-Place.is (passes g at _ c.if-not-has_room_for.false c.in-Place.is)
    c.near.ensures.cost c.loop-taken.invariant.wanted
    (nears-none _ c.requires.search.is _ c.requires.some _ _ _ _ _ (moved g at) c.in-Place.place
    (sym c.near.ensures.value ∙ c.in_default-near.is))

pub returns-clause-ok : goal.returns-clause-ok
returns-clause-ok g c =
    subst (λ (ns : List Near). IfOk c.into_vec-2.result (λ found. found.items ≡ ns))
    (seeking-end _ c.requires.search.is _ c.requires.some _ _ _ _ c.in_default.ensures.none c.loop-taken.invariant)
    c.into_vec-2.ensures

pub returns-clause-cost : goal.returns-clause-cost
returns-clause-cost g c =
    let paid = seeking-paid _ c.requires.search.is _ c.requires.some _ _ _ _ c.loop-taken.invariant in
    omega (arith, paid)
