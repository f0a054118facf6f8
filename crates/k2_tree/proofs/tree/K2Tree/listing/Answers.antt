use Rattle.std.proofs.Common.{◌∙◌, ◌+◌, ◌*◌, ◌≤◌, ap, length, map, subst}
use Rattle.bit_rank.specs.Cost.{window_reads}
use Rattle.k2_tree.specs.Listing.{spot_cell, spot_code}
use Rattle.k2_tree.specs.Tree.{Tree, codes_of}
use Rattle.k2_tree.specs.TreeSquares.{squares_of}
use Rattle.k2_tree.proofs.ListingLemmas.{listing-reads, spots-cells, spots-codes}
use Rattle.k2_tree.proofs.tree.K2Tree.listing.Given.{Over}
use Rattle.k2_tree.proofs.tree.K2Tree.listing.Goals as goal
use Rattle.k2_tree.proofs.tree.K2Tree.listing.Goals.{After-spots_in}

pub returns-clause-codes : goal.returns-clause-codes
returns-clause-codes g c =
    let s = c.self.inside in
    c.in_ok-codes.ensures.ok ∙ ap (map spot_code) c.deref.ensures.value
    ∙ spots-codes c.self.invariant.tree s.base c.in_ok-spots.spots.items c.in_ok-spots.ensures.ok
    ∙ ap codes_of c.self.view_is

pub returns-clause-cells : goal.returns-clause-cells
returns-clause-cells g c =
    let s = c.self.inside in
    c.in_ok-cells.ensures.ok ∙ ap (map (spot_cell s.base)) c.deref-2.ensures.value
    ∙ spots-cells c.self.invariant.tree s.base c.in_ok-spots.spots.items c.in_ok-spots.ensures.ok
    ∙ ap (λ (t : Tree). t.cells) c.self.view_is

-- no more squares are gone over than the tree has
reads : (g : Over) (c : After-spots_in g)
    → c.spots_in.new.steps ≤ c.args.steps.now + window_reads * length (squares_of c.args.self.now)
reads g c =
    let s = c.self.inside in
    subst (λ t. c.spots_in.new.steps ≤ c.args.steps.now + window_reads * length (squares_of t)) c.self.view_is
    (listing-reads c.self.invariant.tree s.base _ _ c.spots_in.ensures.cost)

pub returns-in_err-spots-clause-cost : goal.returns-in_err-spots-clause-cost
returns-in_err-spots-clause-cost g c = reads g (goal.at.returns-in_err-spots-clause-cost g c).After-spots_in

pub returns-in_err-codes-clause-cost : goal.returns-in_err-codes-clause-cost
returns-in_err-codes-clause-cost g c = reads g (goal.at.returns-in_err-codes-clause-cost g c).After-spots_in

pub returns-in_err-cells-clause-cost : goal.returns-in_err-cells-clause-cost
returns-in_err-cells-clause-cost g c = reads g (goal.at.returns-in_err-cells-clause-cost g c).After-spots_in

pub returns-clause-cost : goal.returns-clause-cost
returns-clause-cost g c = reads g (goal.at.returns-clause-cost g c).After-spots_in
