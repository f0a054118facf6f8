-- Nodes that were made of all tasks hold their squares.
use Rattle.std.proofs.Common.{◌≡◌, ℕ, zero, suc, ◌+◌, ◌<◌, ◌≤◌, List, [], ◌∷◌, length, refl, sym}
use Rattle.std.proofs.Common.{ap, ◌∙◌, arith, All, subst, inl, inr, ◌⊎◌}
use Rattle.std.specs.Prelude.{nat_lt, if◌then◌else◌}
use Rattle.std.proofs.lemmas.Option.{same_Some, slice_get_within}
use Rattle.box_tree.specs.NodeKinds.{link_kind}
use Rattle.box_tree.specs.Levels.{children, digits, run}
use Rattle.k2_tree.specs.Areas.{IsBoxInside}
use Rattle.box_tree.specs.Places.{Places, box_at}
use Rattle.box_tree.specs.Held.{Held, IsBranch, IsBucket, IsKindFor, Nodes, Stand}
use Rattle.box_tree.specs.Tree.{levels_below}
use Rattle.box_tree.specs.Building.{IsMade, IsMadeKind, IsTask, IsTaskAt}
use Rattle.box_tree.specs.declared.node_kind.NodeKind.{NodeKind}
use Rattle.box_tree.specs.declared.node_kind.NodeKind.TheVariants.{Bucket, Branch}
use Rattle.box_tree.specs.declared.task.Task.{Task}

-- what holds of each node holds of nodes one after another
pub Stand-weaker : (P Q : ℕ → ℕ → Type 0) → ((prefix number : ℕ) → P prefix number → Q prefix number)
    → (first : ℕ) (prefixes : List ℕ) → Stand P first prefixes → Stand Q first prefixes
unfolding Stand
Stand-weaker P Q only first [] stand = tt
Stand-weaker P Q only first (prefix ∷ prefixes) stand =
    (only prefix first stand.0, Stand-weaker P Q only (first + 1) prefixes stand.1)

module _ (places : Places) (narrow : ℕ) (tasks : List Task) (nodes : Nodes)
    (made : (number : ℕ) → number < length tasks
    → IsMade places.codes places.boxes narrow tasks nodes.areas nodes.links number) where
  -- the kind at a cell, and at another square
  kind-last : (task : Task) (kind : NodeKind) → task.below ≡ 0 → IsBucket places.codes 0 task.prefix task.low task.high
      → IsMadeKind places.codes narrow tasks task kind → IsKindFor places nodes [] task.prefix kind
  unfolding IsKindFor
  kind-last task (Bucket low high) flat is its = record { low_is = its.0 ∙ is.low_is; high_is = its.1 ∙ is.high_is }
  kind-last task (Branch end mask) flat is its = let deep = its.deep in absurd (omega arith)

  kind-upper : (task : Task) (kind : NodeKind) (width lower : ℕ) → task.below ≡ suc lower
      → levels_below narrow (suc lower) ≡ width ∷ levels_below narrow lower
      → ((prefix number : ℕ) → IsTaskAt tasks lower prefix number
      → Held places nodes (levels_below narrow lower) prefix number)
      → IsBucket places.codes (width + digits (levels_below narrow lower)) task.prefix task.low task.high
      → IsMadeKind places.codes narrow tasks task kind
      → IsKindFor places nodes (width ∷ levels_below narrow lower) task.prefix kind
  unfolding IsKindFor
  kind-upper task (Bucket low high) width lower deep split below is its =
      (record { low_is = its.0 ∙ is.low_is; high_is = its.1 ∙ is.high_is }, is_few its.2)
    where
      is_few : (task.below ≡ 0) ⊎ (high ≤ low + 16) → high ≤ low + 16
      is_few (inl flat) = absurd (omega arith)
      is_few (inr small) = small
  kind-upper task (Branch end mask) width lower deep split below is its =
      let same_lower : its.lower ≡ lower = cc (its.deep, deep) in
      let same_width : its.width ≡ width = cc (its.levels, split, ap (λ k. levels_below narrow (suc k)) same_lower) in
      let branch : IsBranch places.codes (digits (levels_below narrow lower)) width task.prefix end mask
      (IsTaskAt tasks lower) =
      subst (λ k. IsBranch places.codes (digits (levels_below narrow k)) width task.prefix end mask
      (IsTaskAt tasks k)) same_lower
      (subst (λ w. IsBranch places.codes (digits (levels_below narrow its.lower)) w task.prefix end mask
      (IsTaskAt tasks its.lower)) same_width its.branch) in
      record {
        first = branch.first;
        few = branch.few;
        told = branch.told;
        stand = branch.stand;
        each = Stand-weaker (IsTaskAt tasks lower) (Held places nodes (levels_below narrow lower)) below branch.first
            (children places.codes (digits (levels_below narrow lower)) width task.prefix) branch.each;
      }

  -- a node that was made stands for its square, where its kind does
  node-made : (below prefix number : ℕ) → (stands : IsTaskAt tasks below prefix number)
      → ((task : Task) (kind : NodeKind) → task.below ≡ below → IsTask places.codes narrow task
      → IsMadeKind places.codes narrow tasks task kind
      → IsKindFor places nodes (levels_below narrow below) task.prefix kind)
      → Held places nodes (levels_below narrow below) prefix number
  node-made below prefix number stands kinds =
      let it = made number (slice_get_within tasks number stands.task stands.stands) in
      let same : it.task ≡ stands.task = same_Some it.task stands.task (sym it.stands ∙ stands.stands) in
      let flat : it.task.below ≡ below = ap (λ (t : Task). t.below) same ∙ stands.same_below in
      let at : it.task.prefix ≡ prefix = ap (λ (t : Task). t.prefix) same ∙ stands.same_prefix in
      let level : it.task.level ≡ digits (levels_below narrow below) = sym it.is.level
      ∙ ap (λ k. digits (levels_below narrow k)) flat in
      let P : ℕ → Type 0 = λ place. IsBoxInside (box_at places.boxes place) it.area in
      record {
        area = it.area;
        link = it.link;
        area_is = it.area_is;
        link_is = it.link_is;
        covers = subst (λ p. All P (run places.codes (digits (levels_below narrow below)) p)) at
            (subst (λ n. All P (run places.codes n it.task.prefix)) level it.covers);
        kind = subst (λ p. IsKindFor places nodes (levels_below narrow below) p (link_kind it.link)) at
            (kinds it.task (link_kind it.link) flat it.is it.kind);
      }

  -- each node that stands for a square holds its places
  pub held-made : (below prefix number : ℕ) → IsTaskAt tasks below prefix number
      → Held places nodes (levels_below narrow below) prefix number
  unfolding levels_below
  held-made zero prefix number stands =
      node-made zero prefix number stands (λ task kind flat is its.
      kind-last task kind flat (subst (λ n. IsBucket places.codes n task.prefix task.low task.high)
      (sym is.level ∙ ap (λ k. digits (levels_below narrow k)) flat) is.places) its)
  held-made (suc lower) prefix number stands =
      let width : ℕ = if nat_lt lower narrow then 1 else 2 in
      node-made (suc lower) prefix number stands (λ task kind flat is its.
      kind-upper task kind width lower flat refl (held-made lower)
      (subst (λ n. IsBucket places.codes n task.prefix task.low task.high)
      (sym is.level ∙ ap (λ k. digits (levels_below narrow k)) flat) is.places) its)
