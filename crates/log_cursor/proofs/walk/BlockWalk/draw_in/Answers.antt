use Rattle.std.proofs.Common.{◌≡◌, ◌+◌, ◌≤◌, [], IsTrue, None, Some, refl, subst, sym, ◌∙◌, arith}
use Rattle.std.specs.Option.{IfSome, option_to_list}
use Rattle.std.proofs.lemmas.Int.{ints}
use Rattle.step_count.specs.Reads.{ReadsWithin}
use Rattle.track_types.specs.Near.{IsCellAsked}
use Rattle.track_types.specs.declared.stop.Stop.{Stop}
use Rattle.rule_store.proofs.NodeLemmas.{opened_count-none}
use Rattle.log_cursor.specs.Needs.{RulesWithin, walk_needs, walk_rule}
use Rattle.log_cursor.specs.Touching.{IsDrawnIn, first_among, start_of, touches_at, touching_rule}
use Rattle.log_cursor.specs.Walk.{WalkView, opened_left, stops_left, walk_of}
use Rattle.log_cursor.proofs.NeedsLemmas.{opening_rule-none, search-walk, walk_needs-on, walk_rule-of}
use Rattle.log_cursor.proofs.SearchLemmas.{IsDrawnIn-after, IsDrawnIn-none}
use Rattle.log_cursor.proofs.StopLemmas.{word}
use Rattle.log_cursor.proofs.TouchLemmas.{touching_rule-from, touching_rule-to}
use Rattle.log_cursor.proofs.WalkLemmas.{stops_left-end}
use Rattle.log_cursor.proofs.WayLemmas.{IsWayOf-none}
use Rattle.log_cursor.proofs.walk.BlockWalk.draw_in.Given.{Over}
use Rattle.log_cursor.proofs.walk.BlockWalk.draw_in.Goals as goal
use Rattle.log_cursor.proofs.walk.BlockWalk.draw_in.Goals.{After-hit_after-found}
use Rattle.log_cursor.proofs.walk.BlockWalk.draw_in.Goals.{in-Some+else-holds, in_default}

-- the anchor, if it was still to come, is not in the region
anchor_outside : (g : Over) (c : After-hit_after-found g) →
    first_among c.args.test.now.region (option_to_list c.self.inside.anchor) ≡ None
anchor_outside g c = elim c.match-take.branch [
  | in-Some+else-holds w ↦
      let some = sym c.take.ensures.value ∙ w.in-Some.is in
      let outside = sym w.holds.ensures ∙ w.if-holds.false in
      rw some (rw outside refl)
  | in_default w ↦ let none : c.self.inside.anchor ≡ None = sym c.take.ensures.value ∙ w.in_default.is in rw none refl
]

-- the anchor is near enough to be compared
pub holds-requires : goal.holds-requires
holds-requires g c =
    let asked : IsCellAsked c.in-Some.stop.cell =
    subst (λ anchor. IfSome anchor (λ (stop : Stop). IsCellAsked stop.cell)) (sym c.take.ensures.value ∙ c.in-Some.is)
    c.self.invariant.near in
    record {
      near = record {
        x = record { low = omega (arith, ints, asked.x.low); high = omega (arith, ints, asked.x.high) };
        y = record { low = omega (arith, ints, asked.y.low); high = omega (arith, ints, asked.y.high) };
      };
    }

pub hit_after-found-requires-clause-may : goal.hit_after-found-requires-clause-may
hit_after-found-requires-clause-may g c = λ read needed.
    let walk = c.self.inside in
    let from : word walk.from ≡ walk.from = omega (arith, ints) in
    let to : word walk.to ≡ walk.to = omega (arith, ints) in
    c.requires.may read (subst (λ (w : WalkView). IsTrue (walk_needs (touches_at c.args.test.now.region) w read)) c.self.view_is
    (search-walk c.args.test.now.region walk.pending walk.anchor walk.at walk.from walk.to read (rw (from, to) at needed)))

pub invariant_of-self-in_default-found : goal.invariant_of-self-in_default-found
invariant_of-self-in_default-found g c =
    let walk = c.self.inside in
    record {
      way = rw c.end.ensures.symbols (IsWayOf-none c.end.new.self.rules walk.at c.self.invariant.way.start_is);
      near = rw c.take.ensures.after tt;
      window = c.self.invariant.window;
    }

pub returns-in_default-found-clause-drawn : goal.returns-in_default-found-clause-drawn
returns-in_default-found-clause-drawn g c =
    let walk = c.self.inside in
    let region = c.args.test.now.region in
    let outside = anchor_outside g (goal.at.returns-in_default-found-clause-drawn g c).After-hit_after-found in
    let stops = stops_left walk.pending.rules walk.from walk.to walk.at walk.pending.symbols in
    let from : word walk.from ≡ walk.from = omega (arith, ints) in
    let to : word walk.to ≡ walk.to = omega (arith, ints) in
    let none : first_among region stops ≡ None =
    rw (from, to) at (sym c.hit_after-found.ensures.value ∙ c.in_default-found.is) in
    let end = stops_left-end c.end.new.self.rules walk.from walk.to walk.at c.end.new.self.symbols c.end.ensures.symbols in
    rw (c.take.ensures.after, end) (subst (λ (w : WalkView). IsDrawnIn region w.stops [] None) c.self.view_is
    (IsDrawnIn-after region (option_to_list walk.anchor) stops [] None outside (IsDrawnIn-none region stops none)))

pub returns-in_default-found-clause-cost : goal.returns-in_default-found-clause-cost
returns-in_default-found-clause-cost g c =
    let walk = c.self.inside in
    let from : word walk.from ≡ walk.from = omega (arith, ints) in
    let to : word walk.to ≡ walk.to = omega (arith, ints) in
    let none = opened_count-none c.end.new.self.rules walk.at.instant walk.from walk.to in
    subst (λ (w : WalkView). c.hit_after-found.new.steps + (c.end.new.self.unread
    + opened_left c.end.new.self.rules walk.from walk.to walk.at c.end.new.self.symbols) ≤ c.args.steps.now + w.reads)
    c.self.view_is
    (rw (c.end.ensures.unread, c.end.ensures.symbols, none) (omega (arith, rw (from, to) at c.hit_after-found.ensures.budget)))

pub invariant_of-self-2 : goal.invariant_of-self-2
invariant_of-self-2 g c =
    let hit = c.in-Some-found.hit in
    let kept : word hit.instant ≡ hit.instant = omega (arith, ints) in
    record {
      way = rw (kept, c.hit_after-found.ensures.rules) c.in-Some-found.ensures.left.way;
      near = rw c.take.ensures.after tt;
      window = c.self.invariant.window;
    }

pub returns-clause-drawn : goal.returns-clause-drawn
returns-clause-drawn g c =
    let walk = c.self.inside in
    let region = c.args.test.now.region in
    let outside = anchor_outside g (goal.at.returns-clause-drawn g c).After-hit_after-found in
    let hit = c.in-Some-found.hit in
    let stops = stops_left walk.pending.rules walk.from walk.to walk.at walk.pending.symbols in
    let left = stops_left walk.pending.rules walk.from walk.to (start_of hit) c.hit_after-found.new.pending.symbols in
    let from : word walk.from ≡ walk.from = omega (arith, ints) in
    let to : word walk.to ≡ walk.to = omega (arith, ints) in
    let kept : word hit.instant ≡ hit.instant = omega (arith, ints) in
    let drawn : IsDrawnIn region stops left (Some hit) = rw (from, to) at c.in-Some-found.ensures.left.drawn in
    rw (kept, c.take.ensures.after, c.hit_after-found.ensures.rules) (subst (λ (w : WalkView). IsDrawnIn region w.stops left (Some hit))
    c.self.view_is (IsDrawnIn-after region (option_to_list walk.anchor) stops left (Some hit) outside drawn))

pub returns-then-holds-clause-needs : goal.returns-then-holds-clause-needs
unfolding walk_rule
returns-then-holds-clause-needs g c = λ read is.
    subst (λ (w : WalkView). IsTrue (walk_needs (touches_at c.args.test.now.region) w read)) c.self.view_is is

pub returns-in_default-found-clause-needs : goal.returns-in_default-found-clause-needs
returns-in_default-found-clause-needs g c =
    let walk = c.self.inside in
    let region = c.args.test.now.region in
    rw c.take.ensures.after (subst (λ (w : WalkView). ReadsWithin
    (walk_needs (touches_at region) (walk_of c.end.new.self None walk.at walk.from walk.to))
    (walk_needs (touches_at region) w)) c.self.view_is
    (walk_needs-on (touches_at region) (λ cell. refl) c.end.new.self None walk.at walk.from walk.to
    (walk_of walk.pending walk.anchor walk.at walk.from walk.to) (c.end.ensures.places ∙ c.hit_after-found.ensures.places)
    (λ rule is. absurd (cc (rw (
      c.end.ensures.symbols,
      opening_rule-none c.end.new.self.rules (touches_at region) walk.from walk.to walk.at rule,
    ) at is)))))

pub returns-clause-needs : goal.returns-clause-needs
returns-clause-needs g c =
    let walk = c.self.inside in
    let region = c.args.test.now.region in
    let hit = c.in-Some-found.hit in
    let from : word walk.from ≡ walk.from = omega (arith, ints) in
    let to : word walk.to ≡ walk.to = omega (arith, ints) in
    let kept : word hit.instant ≡ hit.instant = omega (arith, ints) in
    let now = c.hit_after-found.new.pending in
    let opens : RulesWithin (touching_rule walk.pending.rules (start_of hit) now.symbols walk.from walk.to region)
    (touching_rule walk.pending.rules walk.at walk.pending.symbols walk.from walk.to region) =
    rw (from, to) at c.in-Some-found.ensures.left.opens in
    rw (kept, c.take.ensures.after) (subst (λ (w : WalkView). ReadsWithin (walk_needs (touches_at region) (walk_of now None (start_of hit) walk.from walk.to))
    (walk_needs (touches_at region) w)) c.self.view_is
    (walk_needs-on (touches_at region) (λ cell. refl) now None (start_of hit) walk.from walk.to
    (walk_of walk.pending walk.anchor walk.at walk.from walk.to) c.hit_after-found.ensures.places
    (λ rule is. walk_rule-of (touches_at region) (λ cell. refl) walk.pending walk.anchor walk.at walk.from walk.to rule
    (touching_rule-to walk.pending.rules walk.from walk.to region walk.at walk.pending.symbols rule (opens rule
    (touching_rule-from walk.pending.rules walk.from walk.to region (start_of hit) now.symbols rule
    (rw c.hit_after-found.ensures.rules at is)))))))
