use Rattle.std.proofs.lemmas.Grind.{common_steps}
use Rattle.std.proofs.Common.{List, subst, ◌≡◌, ◌<◌, ◌∙◌, sym, ap, arith, length, map, get_or, set, None, Some}
use Rattle.std.proofs.lemmas.List.{get_or-set_same}
use Rattle.std.specs.Prelude.{option_map, option_to_list}
use Rattle.question_shell.specs.Desk.{DeskState, NeedsNoMore}
use Rattle.question_shell.proofs.DeskLemmas.{IsDrawn, draws-cost, draws-found, draws-held, draws-others}
use Rattle.question_shell.proofs.DeskLemmas.{needs-drawn}
use Rattle.question_shell.proofs.DeskLemmas.{shown-below, shown-place, shown-set}
use Rattle.question_shell.proofs.desk.Desk.draw.Given.{Over}
use Rattle.question_shell.proofs.desk.Desk.draw.Goals as goal
use Rattle.question_shell.proofs.desk.Desk.draw.Goals.{After-draw}

-- the desk before and after the draw
drawn : (g : Over) (c : After-draw g) →
    IsDrawn c.args.self.now.view
    (map (option_map (λ walk. (g.W.Lazy.left walk, g.W.Lazy.budget walk)))
    (set c.self.inside.places.items c.args.slot (Some c.draw.new.self)))
    c.args.slot (g.W.Lazy.left c.in-Some.walk, g.W.Lazy.budget c.in-Some.walk)
    (g.W.Lazy.left c.draw.new.self, g.W.Lazy.budget c.draw.new.self)
drawn g c =
    let places = c.self.inside.places.items in
    let desk = c.args.self.now.view in
    let slot = c.args.slot in
    let seen = ap (λ (d : DeskState _). d.view) c.self.view_is in
    let below : slot < length places = omega (arith, c.requires.slot, c.self.invariant) in
    record {
      below = shown-below (λ walk. (g.W.Lazy.left walk, g.W.Lazy.budget walk)) places desk slot seen below;
      before = shown-place (λ walk. (g.W.Lazy.left walk, g.W.Lazy.budget walk)) places desk slot seen
          (Some c.in-Some.walk) c.index_mut.result.now below (sym c.index_mut.ensures.value ∙ c.in-Some.is);
      after = shown-set (λ walk. (g.W.Lazy.left walk, g.W.Lazy.budget walk)) places desk slot seen
          (Some c.draw.new.self);
    }

pub returns-clause-found : goal.returns-clause-found
returns-clause-found g c =
    draws-found (drawn g (goal.at.returns-clause-found g c).After-draw) (option_to_list c.draw.result)
    c.draw.ensures.found

pub returns-clause-cost : goal.returns-clause-cost
returns-clause-cost g c =
    draws-cost (drawn g (goal.at.returns-clause-cost g c).After-draw) c.args.steps.now c.draw.new.steps
    c.draw.ensures.cost

pub returns-clause-held : goal.returns-clause-held
returns-clause-held g c = draws-held (drawn g (goal.at.returns-clause-held g c).After-draw)

pub returns-clause-needs : goal.returns-clause-needs
returns-clause-needs g c =
    let places = c.self.inside.places.items in
    let now = set places c.args.slot (Some c.draw.new.self) in
    let held : places ≡ c.args.self.now.walks = ap (λ (d : DeskState _). d.walks) c.self.view_is in
    subst (λ (walks : List _). NeedsNoMore g.W.Lazy.needs walks now) held
    (needs-drawn g.W.Lazy.needs places c.args.slot c.in-Some.walk c.draw.new.self c.index_mut.result.now
    (sym c.index_mut.ensures.value ∙ c.in-Some.is) c.draw.ensures.needs)

pub returns-clause-stays : goal.returns-clause-stays
returns-clause-stays g c =
    let places = c.self.inside.places.items in
    let slot = c.args.slot in
    let place = Some c.draw.new.self in
    let now = set places slot place in
    let held : places ≡ c.args.self.now.walks = ap (λ (d : DeskState _). d.walks) c.self.view_is in
    let below : slot < length places = omega (arith, c.requires.slot, c.self.invariant) in
    subst (λ (walks : List _). now ≡ set walks slot (get_or now slot None)) held
    (ap (set places slot) (sym (get_or-set_same places slot place None below)))

pub returns-in_default-clause-stays : goal.returns-in_default-clause-stays
returns-in_default-clause-stays g c = grind (arith, common_steps)

pub returns-clause-others : goal.returns-clause-others
returns-clause-others g c = draws-others (drawn g (goal.at.returns-clause-others g c).After-draw)

pub returns-in_default-clause-found : goal.returns-in_default-clause-found
returns-in_default-clause-found g c = grind (arith, common_steps)

pub returns-in_default-clause-none : goal.returns-in_default-clause-none
returns-in_default-clause-none g c = grind (arith, common_steps)

pub returns-in_default-clause-cost : goal.returns-in_default-clause-cost
returns-in_default-clause-cost g c = grind (arith, common_steps)

pub returns-in_default-clause-held : goal.returns-in_default-clause-held
returns-in_default-clause-held g c = grind (arith, common_steps)

pub returns-in_default-clause-others : goal.returns-in_default-clause-others
returns-in_default-clause-others g c = grind (arith, common_steps)

pub returns-clause-none : goal.returns-clause-none
returns-clause-none g c = grind (arith, common_steps)
