-- What is put among what waits: one element after another, the places of a bucket, the children of a branch.
use Rattle.std.proofs.Common.{◌≡◌, ℕ, suc, ◌+◌, ◌-◌, ◌*◌, ◌≤◌, Bool, true, List, [], ◌∷◌, ◌++◌, length, map, min, reverse, All}
use Rattle.std.proofs.Common.{refl, sym, subst, ◌∙◌, ap, arith, inl, inr, ◌⊎◌}
use Rattle.std.specs.List.{flat_map, range_with_len, sum_by}
use Rattle.std.specs.List.Sorted.{IsPermutation}
use Rattle.std.proofs.lemmas.Bool.{cases_lt}
use Rattle.std.proofs.lemmas.List.Elements.{All-append, All-cons, All-head, All-nil, All-tail}
use Rattle.std.proofs.lemmas.List.Sorted.{All-permutation, IsPermutation-reverse, IsPermutation-sym, sum_by-IsPermutation, sum_by_pushed}
use Rattle.std.proofs.lemmas.List.Sums.{sum_by-append, sum_by-cons}
use Rattle.list_laws.proofs.FlatLemmas.{sum_by-flat_map, sum_by-map, sum_by_plus}
use Rattle.list_laws.proofs.SumLemmas.{sum_by-agree, sum_by-zeros}
use Rattle.k2_tree.specs.Squares.{Node}
use Rattle.box_tree.specs.Cost.{box_reads, link_reads, place_reads}
use Rattle.box_tree.specs.Held.{IsBucket, IsKindFor}
use Rattle.box_tree.specs.Levels.{digits, run}
use Rattle.box_tree.specs.Places.{square_places, square_with, square_worth}
use Rattle.box_tree.specs.Tree.{IsNodeOf, TreeView, levels_of, node_at, node_square, node_prefix}
use Rattle.box_tree.specs.Walk.{IsGivenWay, turns_in}
use Rattle.box_tree.specs.declared.node_kind.NodeKind.TheVariants.{Bucket}
use Rattle.box_tree.specs.declared.node_ref.NodeRef.{NodeRef}
use Rattle.box_tree.proofs.NodeLemmas.{squares_in-own, square_worth-bucket, square_worth-cell}
use Rattle.box_tree.proofs.WalkLemmas.{bucket-parts}
use Rattle.nearest_search.specs.Seeking.{Quest, AreAdded, IsElement, OpensWaiting, IsPaid, IsQuest, IsQueued}
use Rattle.nearest_search.specs.Seeking.{places_in, quest_tree, waiting_turns, worth_left}
use Rattle.nearest_search.specs.declared.waiting.Element.{Element}
use Rattle.nearest_search.specs.declared.waiting.Waiting.{Waiting}
use Rattle.nearest_search.specs.declared.waiting.Waiting.TheVariants.{Node as AtNode, Place as AtPlace}
use Rattle.nearest_search.proofs.ElementLemmas.{are-places}
use Rattle.box_tree.proofs.PlacesLemmas.{square_start-le}

-- how often places are counted is how many there are
pub sum_by-ones : {X : Type 0} (xs : List X) → sum_by (λ _. 1) xs ≡ length xs
sum_by-ones [] = refl
sum_by-ones (x ∷ xs) = omega (arith, sum_by-cons (λ _. 1) x xs, sum_by-ones xs)

-- what holds of all of two lists together
all-parts : {X : Type 0} (P : X → Type 0) (xs ys : List X) → All P (xs ++ ys) → All P xs × All P ys
all-parts P [] ys all = (All-nil P, all)
all-parts P (x ∷ xs) ys all =
    let rest = all-parts P xs ys (All-tail P x (xs ++ ys) all) in
    (All-cons P x xs (All-head P x (xs ++ ys) all) rest.0, rest.1)

-- how long lists are together
length-flat_map : {X Y : Type 0} (f : X → List Y) (xs : List X) → length (flat_map f xs) ≡ sum_by (λ x. length (f x)) xs
length-flat_map f xs =
    sym (sum_by-ones (flat_map f xs)) ∙ sum_by-flat_map (λ _. 1) f xs
    ∙ sum_by-agree (λ x. sum_by (λ _. 1) (f x)) (λ x. length (f x)) (λ x. sum_by-ones (f x)) xs

module _ (quest : Quest) where
  abbrev tree : TreeView
  tree = quest_tree quest

  -- nothing was added
  pub added-none : (old : List Element) → AreAdded quest [] old old
  added-none old = record { sums = λ f. omega arith; each = λ all. all }

  -- one element was
  pub added-one : (element : Element) (old new : List Element) → IsElement quest element
      → IsPermutation (element ∷ old) new → AreAdded quest (element.waiting ∷ []) old new
  added-one element old new its moved = record {
    sums = λ f.
        omega (
          arith,
          sum_by_pushed (λ (e : Element). f e.waiting) element old new moved,
          sum_by-cons f element.waiting [],
        );
    each = λ all.
        All-permutation (IsElement quest) (element ∷ old) new moved (All-cons (IsElement quest) element old its all);
  }

  pub added-queued : (waiting : Waiting) (old new : List Element) → IsQueued quest waiting old new
      → AreAdded quest (waiting ∷ []) old new
  added-queued waiting old new queued =
      subst (λ w. AreAdded quest (w ∷ []) old new) queued.is
      (added-one queued.element old new queued.its queued.moved)

  -- and one more
  pub added-more : (added : List Waiting) (waiting : Waiting) (old middle new : List Element)
      → AreAdded quest added old middle → AreAdded quest (waiting ∷ []) middle new
      → AreAdded quest (waiting ∷ added) old new
  added-more added waiting old middle new first next = record {
    sums = λ f.
        omega (arith, first.sums f, next.sums f, sum_by-cons f waiting added, sum_by-cons f waiting []);
    each = λ all. next.each (first.each all);
  }

  -- the nodes of a list were added, in whatever order
  pub added-same : (done nodes : List NodeRef) (old new : List Element)
      → ((f : NodeRef → ℕ) → sum_by f done ≡ sum_by f nodes)
      → AreAdded quest (map AtNode done) old new → AreAdded quest (map AtNode nodes) old new
  added-same done nodes old new same its = record {
    sums = λ f.
        omega (
          arith,
          its.sums f,
          same (λ ref. f (AtNode ref)),
          sum_by-map f AtNode done,
          sum_by-map f AtNode nodes,
        );
    each = its.each;
  }

  -- a place alone
  one-place : (weight : ℕ → ℕ) (place : ℕ) → sum_by weight (place ∷ []) ≡ weight place
  one-place weight place = omega (arith, sum_by-cons weight place [])

  module _ (is : IsQuest quest) (ref : NodeRef) (of : IsNodeOf tree ref) (old new : List Element) where
    -- a bucket's places are those of its node
    module _ (low high : ℕ)
        (kind : IsKindFor tree.places tree.nodes (levels_of tree.narrow ref) (node_prefix ref) (Bucket low high)) where
      abbrev range : List ℕ
      range = range_with_len low (high - low)

      parts : IsBucket tree.places.codes (digits (levels_of tree.narrow ref)) (node_prefix ref) low high
          × ((levels_of tree.narrow ref ≡ []) ⊎ (high ≤ low + 16))
      parts = bucket-parts tree.places tree.nodes (levels_of tree.narrow ref) (node_prefix ref) low high kind

      bucket-run : square_places tree.places (node_square tree.narrow ref) ≡ range
      unfolding run
      bucket-run = rw (parts.0.low_is, parts.0.high_is) refl

      pub bucket-within : high ≤ length tree.places.codes
      bucket-within =
          omega (
            arith,
            parts.0.high_is,
            square_start-le tree.places.codes (digits (levels_of tree.narrow ref)) (node_prefix ref + 1),
          )

      -- a node that passes pays for its bucket
      pub bucket-pays : (test : Node → Bool) → test (node_at ref) ≡ true
          → place_reads * (high - low) + 3 ≤ square_worth test tree.places (node_square tree.narrow ref)
      bucket-pays test holds =
          let passes = ap (λ n. test (record { level = n; prefix = node_prefix ref })) of.level ∙ holds in
          elim parts.1 [
            | inr few ↦
                square_worth-bucket test tree.places (levels_of tree.narrow ref) (node_prefix ref) low high passes few
            | inl cell ↦
                subst (λ levels. test (record { level = digits levels; prefix = node_prefix ref }) ≡ true
                → IsBucket tree.places.codes (digits levels) (node_prefix ref) low high
                → place_reads * (high - low) + 3 ≤ square_worth test tree.places (square_with levels (node_prefix ref)))
                (sym cell)
                (λ holds its.
                square_worth-cell test tree.places (node_prefix ref) low high (are-places quest is).ascend holds its)
                passes parts.0
          ]

      pub bucket-opened : AreAdded quest (map AtPlace range) old new → OpensWaiting quest (AtNode ref) old new
      bucket-opened its = record {
        each = its.each;
        places = λ weight.
            omega (
              arith,
              its.sums (λ w. sum_by weight (places_in quest w)),
              sum_by-map (λ w. sum_by weight (places_in quest w)) AtPlace range,
              sum_by-agree (λ place. sum_by weight (place ∷ [])) weight (one-place weight) range,
              ap (sum_by weight) bucket-run,
            );
        turns =
            let own = squares_in-own (λ _. true) tree.places.codes (levels_of tree.narrow ref) (node_prefix ref) refl in
            omega (
              arith,
              its.sums (waiting_turns quest),
              sum_by-map (waiting_turns quest) AtPlace range,
              sum_by-ones range,
              ap length bucket-run,
              own,
            );
      }

      pub bucket-paid : (begun steps : ℕ) → AreAdded quest (map AtPlace range) old new
          → steps ≤ begun + (link_reads + place_reads * (high - low)) → IsPaid quest (AtNode ref) old new begun steps
      bucket-paid begun steps its most test holds =
          omega (
            arith,
            most,
            bucket-pays test holds,
            its.sums (worth_left quest test),
            sum_by-map (worth_left quest test) AtPlace range,
            sum_by-zeros range,
          )

    -- the children of a branch
    module _ (stack nodes : List NodeRef) (gave : IsGivenWay tree ref (reverse stack) (reverse nodes))
        (empty : stack ≡ []) where
      abbrev worth : (Node → Bool) → NodeRef → ℕ
      worth test child = square_worth test tree.places (node_square tree.narrow child)

      -- a sum over those that were pushed is one over the children
      sum-children : (f : NodeRef → ℕ) → sum_by f nodes ≡ sum_by f gave.children
      sum-children f =
          let turned : reverse nodes ≡ gave.children ++ reverse stack = gave.pushed in
          omega (
            arith,
            sum_by-IsPermutation f nodes (reverse nodes) (IsPermutation-reverse nodes),
            ap (sum_by f) turned,
            sum_by-append f gave.children (reverse stack),
            ap (λ xs. sum_by f (reverse xs)) empty,
          )

      pub children-of : All (IsNodeOf tree) nodes
      children-of =
          All-permutation (IsNodeOf tree) (reverse nodes) nodes
          (IsPermutation-sym nodes (reverse nodes) (IsPermutation-reverse nodes))
          (subst (All (IsNodeOf tree)) (sym gave.pushed)
          (All-append (IsNodeOf tree) gave.children (reverse stack) gave.nodes
          (subst (λ xs. All (IsNodeOf tree) (reverse xs)) (sym empty) (All-nil (IsNodeOf tree)))))

      -- each node is worth its box and what it is
      worth-parts : (test : Node → Bool) (refs : List NodeRef)
          → sum_by (λ child. worth test child - box_reads) refs + box_reads * length refs ≡ sum_by (worth test) refs
      unfolding square_worth
      worth-parts test [] = refl
      worth-parts test (x ∷ xs) =
          omega (
            arith,
            sum_by-cons (λ child. worth test child - box_reads) x xs,
            sum_by-cons (worth test) x xs,
            worth-parts test xs,
          )

      pub branch-pays : (test : Node → Bool) → test (node_at ref) ≡ true
          → link_reads + box_reads * length nodes + sum_by (λ child. worth test child - box_reads) nodes
          ≤ worth test ref - box_reads
      branch-pays test holds =
          omega (arith, gave.reads test holds, sum-children (worth test), worth-parts test nodes)

      pub branch-opened : AreAdded quest (map AtNode nodes) old new → OpensWaiting quest (AtNode ref) old new
      branch-opened its = record {
        each = its.each;
        places = λ weight.
            let runs : NodeRef → List ℕ = λ child. square_places tree.places (node_square tree.narrow child) in
            omega (
              arith,
              its.sums (λ w. sum_by weight (places_in quest w)),
              sum_by-map (λ w. sum_by weight (places_in quest w)) AtNode nodes,
              sum-children (λ child. sum_by weight (runs child)),
              ap (sum_by weight) gave.places,
              sum_by-flat_map weight runs gave.children,
            );
        turns =
            let runs : NodeRef → List ℕ = λ child. square_places tree.places (node_square tree.narrow child) in
            let turns : NodeRef → ℕ = λ child. turns_in tree.places (node_square tree.narrow child) in
            omega (
              arith,
              its.sums (waiting_turns quest),
              sum_by-map (waiting_turns quest) AtNode nodes,
              sum-children (λ child. turns child + length (runs child)),
              sum_by_plus turns (λ child. length (runs child)) gave.children,
              gave.turns,
              length-flat_map runs gave.children,
              ap length gave.places,
            );
      }

      pub branch-paid : (begun steps : ℕ) → AreAdded quest (map AtNode nodes) old new
          → steps ≤ begun + (link_reads + box_reads * length nodes) → IsPaid quest (AtNode ref) old new begun steps
      branch-paid begun steps its most test holds =
          omega (
            arith,
            most,
            branch-pays test holds,
            its.sums (worth_left quest test),
            sum_by-map (worth_left quest test) AtNode nodes,
          )

-- nodes are put among what waits, one after another
pub record AreMoving (quest : Quest) (first left : List NodeRef) (old new : List Element) (begun steps : ℕ) : Type 0 where
  pub done : List NodeRef
  pub sums : (f : NodeRef → ℕ) → sum_by f done + sum_by f left ≡ sum_by f first
  pub nodes : All (IsNodeOf (quest_tree quest)) left
  pub added : AreAdded quest (map AtNode done) old new
  pub reads : steps ≤ begun + box_reads * length done

module _ (quest : Quest) where
  module _ (first waiting left : List NodeRef) (ref : NodeRef) (old now : List Element) (begun steps : ℕ)
      (split : waiting ≡ left ++ ref ∷ []) (moving : AreMoving quest first waiting old now begun steps) where
    -- there are as many in all
    pub moving-count : length moving.done + 1 ≤ length first
    moving-count =
        let nothing : sum_by (λ (r : NodeRef). 1) [] ≡ 0 = refl in
        omega (
          arith,
          nothing,
          moving.sums (λ _. 1),
          ap (sum_by (λ (r : NodeRef). 1)) split,
          sum_by-append (λ (r : NodeRef). 1) left (ref ∷ []),
          sum_by-cons (λ (r : NodeRef). 1) ref [],
          sum_by-ones moving.done,
          sum_by-ones first,
        )

    -- and it was put there
    pub moving-more : (new : List Element) (later : ℕ) → IsQueued quest (AtNode ref) now new → later ≤ steps + box_reads
        → AreMoving quest first left old new begun later
    moving-more new later queued most = record {
      done = ref ∷ moving.done;
      sums = λ f.
          let nothing : sum_by f [] ≡ 0 = refl in
          omega (
            arith,
            nothing,
            moving.sums f,
            ap (sum_by f) split,
            sum_by-append f left (ref ∷ []),
            sum_by-cons f ref [],
            sum_by-cons f ref moving.done,
          );
      nodes = (all-parts (IsNodeOf (quest_tree quest)) left (ref ∷ [])
          (subst (All (IsNodeOf (quest_tree quest))) split moving.nodes)).0;
      added = added-more quest (map AtNode moving.done) (AtNode ref) old now new moving.added
          (added-queued quest (AtNode ref) now new queued);
      reads = omega (arith, moving.reads, most);
    }

  -- all were put there
  pub moving-last : (first left : List NodeRef) (old now : List Element) (begun steps : ℕ)
      → AreMoving quest first left old now begun steps → left ≡ []
      → AreAdded quest (map AtNode first) old now × (steps ≤ begun + box_reads * length first)
  moving-last first left old now begun steps moving none =
      let same : (f : NodeRef → ℕ) → sum_by f moving.done ≡ sum_by f first =
      λ f. let nothing : sum_by f [] ≡ 0 = refl in omega (arith, nothing, moving.sums f, ap (sum_by f) none) in (
        added-same quest moving.done first old now same moving.added,
        omega (arith, moving.reads, same (λ _. 1), sum_by-ones moving.done, sum_by-ones first),
      )

-- places from one on are put among what waits, the last first
pub record AreFilling (quest : Quest) (low high place : ℕ) (old new : List Element) (begun steps : ℕ) : Type 0 where
  pub above : min low high ≤ place
  pub below : place ≤ high
  pub added : AreAdded quest (map AtPlace (range_with_len place (high - place))) old new
  pub reads : steps ≤ begun + place_reads * (high - place)

module _ (quest : Quest) (low high : ℕ) (old : List Element) (begun : ℕ) where
  -- none yet
  pub filling-first : AreFilling quest low high high old old begun begun
  filling-first =
      let none : high - high ≡ 0 = omega arith in
      record {
        above = omega arith;
        below = omega arith;
        added = subst (λ n. AreAdded quest (map AtPlace (range_with_len high n)) old old) (sym none) (added-none quest old);
        reads = omega arith;
      }

  module _ (place steps : ℕ) (now : List Element) (filling : AreFilling quest low high place old now begun steps) where
    -- the one before it
    pub filling-more : (next : ℕ) (new : List Element) (later : ℕ) → next + 1 ≡ place → low ≤ next
        → IsQueued quest (AtPlace next) now new → later ≤ steps + place_reads
        → AreFilling quest low high next old new begun later
    filling-more next new later before inside queued most =
        let long : high - next ≡ suc (high - place) = omega (arith, before, filling.below) in
        record {
          above = omega (arith, inside);
          below = omega (arith, before, filling.below);
          added = subst (λ n. AreAdded quest (map AtPlace (range_with_len next n)) old new) (sym long)
              (added-more quest (map AtPlace (range_with_len (next + 1) (high - place))) (AtPlace next) old now new
              (subst (λ p. AreAdded quest (map AtPlace (range_with_len p (high - place))) old now) (sym before) filling.added)
              (added-queued quest (AtPlace next) now new queued));
          reads = omega (arith, filling.reads, most, long);
        }

    -- all of them
    pub filling-last : place ≤ low → AreAdded quest (map AtPlace (range_with_len low (high - low))) old now
    filling-last done = elim (cases_lt low high) [
      | inl some ↦
          let same : place ≡ low = omega (arith, done, filling.above, some) in
          subst (λ p. AreAdded quest (map AtPlace (range_with_len p (high - p))) old now) same filling.added
      | inr none ↦
          let here : high - place ≡ 0 = omega (arith, filling.above, filling.below, none) in
          let there : high - low ≡ 0 = omega (arith, none) in
          let its = subst (λ n. AreAdded quest (map AtPlace (range_with_len place n)) old now) here filling.added in
          subst (λ n. AreAdded quest (map AtPlace (range_with_len low n)) old now) (sym there) its
    ]
