use Rattle.std.proofs.Common.{◌≡◌, ◌<◌, List, refl, ◌∷◌, [], ◌++◌, length, arith, ap, sym, ◌∙◌, subst, length-append}
use Rattle.std.proofs.lemmas.Bool.{false≢true}
use Rattle.k2_tree.specs.TreeSquares.{node_of}
use Rattle.k2_tree.specs.SquareWalk.{AreOpen, IsTakenChild, open_nodes}
use Rattle.k2_tree.proofs.WalkLemmas.{open_nodes-append, open_nodes-nil, AreOpen-parted, taken}
use Rattle.k2_tree.specs.declared.pending_children.PendingChildren.{PendingChildren}
use Rattle.k2_tree.proofs.square_walk.next_child.Goals as goal

nothing : (stack : List PendingChildren) → (0 < length stack → ⊥) → stack ≡ []
nothing [] none = refl
nothing (pending ∷ stack) none = absurd (none (omega arith))

pub returns-in-Some-next-clause-nodes : goal.returns-in-Some-next-clause-nodes
returns-in-Some-next-clause-nodes c =
    let front = c.pop.new.self.items in
    let child = c.in-Some-next.child in
    sym c.loop-pending.invariant.nodes ∙ ap open_nodes c.in-Some.ensures.items
    ∙ open_nodes-append front c.in-Some.pending
    ∙ ap (λ nodes. nodes ++ open_nodes front) c.in-Some-next.ensures.found.nodes
    ∙ ap (λ nodes. node_of child ∷ nodes) (sym (open_nodes-append front c.next.new.self))
    ∙ ap (λ stack. node_of child ∷ open_nodes stack) (sym c.push.ensures.items)

pub returns-in-Some-next-clause-taken : goal.returns-in-Some-next-clause-taken
returns-in-Some-next-clause-taken c = λ squares base level are.
    let facts = c.in-Some-next.ensures in
    let before =
    subst (AreOpen squares base level) c.in-Some.ensures.items (c.loop-pending.invariant.are squares base level are) in
    subst (IsTakenChild squares base level c.in-Some-next.child) (sym c.push.ensures.items)
    (taken squares base level c.pop.new.self.items before facts.found facts.square)

pub loop-pending-preserved : goal.loop-pending-preserved
loop-pending-preserved c =
    let front = c.pop.new.self.items in
    let kept = c.loop-pending.invariant in
    record {
      fits = omega (arith, kept.fits, ap length c.in-Some.ensures.items, length-append front (c.in-Some.pending ∷ []));
      nodes = ap (λ nodes. nodes ++ open_nodes front) (sym c.in_default-next.ensures.none)
          ∙ sym (open_nodes-append front c.in-Some.pending)
          ∙ ap open_nodes (sym c.in-Some.ensures.items) ∙ kept.nodes;
      are = λ squares base level are.
          (AreOpen-parted squares base level front c.in-Some.pending
          (subst (AreOpen squares base level) c.in-Some.ensures.items (kept.are squares base level are))).0;
    }

pub returns-clause-none : goal.returns-clause-none
returns-clause-none c =
    sym c.loop-pending.invariant.nodes
    ∙ ap open_nodes (nothing c.loop-pending.stack.items (λ some. false≢true (c.in_default.ensures.variant.1 some)))
    ∙ open_nodes-nil
