use Rattle.std.proofs.Common.{◌≡◌, ℕ, suc, ◌^◌, ◌≤◌, ◌++◌, List, [], ◌∷◌, length, map, lit<}
use Rattle.std.proofs.Common.{sym, ap, ◌∙◌, arith, subst, append_assoc, append-nil, length-append}
use Rattle.std.specs.Prelude.{slice_get}
use Rattle.std.proofs.Math.Nat.{pow-le-pow_right}
use Rattle.std.proofs.lemmas.List.{length-map, map-append}
use Rattle.std.proofs.lemmas.List.Elements.{All-append, All-cons, All-nil}
use Rattle.k2_tree.specs.Widths.{fan_of}
use Rattle.k2_tree.specs.Areas.{IsBoxInside}
use Rattle.k2_tree.specs.Squares.{Node}
use Rattle.k2_tree.specs.Tree.{Tree}
use Rattle.k2_tree.specs.TreeSquares.{area_of, child_at, node_of, squares_of, IsSquareOf}
use Rattle.k2_tree.specs.Digits.{digits_of}
use Rattle.k2_tree.specs.PendingChildren.{nodes_of, IsNextOf, StandsAt}
use Rattle.k2_tree.specs.declared.square.Square.{Square}
use Rattle.k2_tree.specs.declared.pending_children.PendingChildren.{PendingChildren}
use Rattle.k2_tree.proofs.StoredLemmas.{length-digits_of}
use Rattle.k2_tree.proofs.tree.K2Tree.children.Invariants.{AreTaken}
use Rattle.k2_tree.proofs.tree.K2Tree.children.Goals as goal

-- a square has at most sixteen children
few_nodes : (pending : PendingChildren) → length (nodes_of pending) ≤ 16
few_nodes pending =
    let w : ℕ = pending.width in
    let most : 4 ^ w ≤ 4 ^ 2 = pow-le-pow_right {n = 4} (lit< tt) {i = w} {j = 2} pending.narrow in
    let digits : List ℕ = digits_of (fan_of w) pending.digits in
    omega (
      arith,
      length-map digits (child_at w (node_of pending.square)),
      length-digits_of (fan_of w) pending.digits,
      most,
    )

-- one more is taken
module _ {tree : Tree} {square child : Square} {children : List Square} {old new : PendingChildren}
    (before : AreTaken tree square children old) (next : IsNextOf old child new) where
  is_one : square.base ≡ tree.base → IsSquareOf tree child
  is_one base =
      let stands : StandsAt (squares_of tree) old.number (node_of child ∷ nodes_of new) =
      subst (StandsAt (squares_of tree) old.number) next.nodes before.stands in
      record {
        base = next.base ∙ ap (λ (s : Square). s.base) before.same ∙ base;
        stands = ap (slice_get (squares_of tree)) next.number ∙ stands.0;
      }

  one_more : square.base ≡ tree.base → IsBoxInside (area_of child) (area_of old.square) → new.square ≡ old.square
      → AreTaken tree square (children ++ child ∷ []) new
  one_more base within same =
      let kept : StandsAt (squares_of tree) old.number (node_of child ∷ nodes_of new) =
      subst (StandsAt (squares_of tree) old.number) next.nodes before.stands in
      let number : suc old.number ≡ new.number = omega (arith, next.later) in
      let inner : Square → Type 0 = λ s. IsBoxInside (area_of s) (area_of square) in
      record {
        same = same ∙ before.same;
        nodes = ap (λ nodes. nodes ++ nodes_of new) (map-append node_of children (child ∷ []))
            ∙ append_assoc (map node_of children) (node_of child ∷ []) (nodes_of new)
            ∙ ap (λ nodes. map node_of children ++ nodes) (sym next.nodes) ∙ before.nodes;
        found = All-append (IsSquareOf tree) children (child ∷ []) before.found
            (All-cons (IsSquareOf tree) child [] (is_one base) (All-nil (IsSquareOf tree)));
        inside = All-append inner children (child ∷ []) before.inside
            (All-cons inner child []
            (subst (λ s. IsBoxInside (area_of child) (area_of s)) before.same within) (All-nil inner));
        stands = subst (λ j. StandsAt (squares_of tree) j (nodes_of new)) number kept.1;
        room = omega (arith, before.room, ap length next.nodes, length-append children (child ∷ []));
      }

pub loop-child-init : goal.loop-child-init
loop-child-init g c =
    let facts = c.pending_children-pending.ensures in
    let pending : PendingChildren = c.pending_children-pending.result in
    subst (λ children. AreTaken c.args.self.now c.args.square.now children pending) (sym c.new-children.ensures)
    (record {
      same = facts.square;
      nodes = facts.nodes;
      found = All-nil (IsSquareOf c.args.self.now);
      inside = All-nil (λ (child : Square). IsBoxInside (area_of child) (area_of c.args.square.now));
      stands = facts.stands;
      room = omega (arith, few_nodes pending);
    })

pub push-requires : goal.push-requires
push-requires g c = omega (arith, c.loop-child.invariant.room, ap length c.in-Some.ensures.found.nodes)

pub loop-child-smaller : goal.loop-child-smaller
loop-child-smaller g c = omega (arith, ap length c.in-Some.ensures.found.nodes)

pub loop-child-preserved : goal.loop-child-preserved
loop-child-preserved g c =
    let facts = c.in-Some.ensures in
    subst (λ children. AreTaken c.args.self.now c.args.square.now children c.next.new.self) (sym c.push.ensures.items)
    (one_more c.loop-child.invariant facts.found c.requires.of.base facts.inside facts.square)

pub returns-clause-nodes : goal.returns-clause-nodes
returns-clause-nodes g c =
    let taken : List Node = map node_of c.loop-child.children.items in
    sym (append-nil taken) ∙ ap (λ nodes. taken ++ nodes) (sym c.in_default.ensures.none) ∙ c.loop-child.invariant.nodes

pub returns-clause-found : goal.returns-clause-found
returns-clause-found g c = c.loop-child.invariant.found

pub returns-clause-inside : goal.returns-clause-inside
returns-clause-inside g c = c.loop-child.invariant.inside
