-- How what is known of a search goes on: it begins with the node of the whole grid, a node is opened, a place is sought,
-- and it ends.
use Rattle.std.proofs.Common.{◌≡◌, ℕ, zero, suc, ◌+◌, ◌*◌, ◌<◌, ◌≤◌, Bool, true, false, List, [], ◌∷◌, length, take, All}
use Rattle.std.proofs.Common.{None, Some, refl, sym, subst, ◌∙◌, ap, arith}
use Rattle.std.specs.Prelude.{nat_lt}
use Rattle.std.specs.List.{filter_map, list_any, range_with_len, sum_by}
use Rattle.std.specs.List.Sorted.{IsPermutation}
use Rattle.std.specs.Ordering.{eq_by_cmp}
use Rattle.std.proofs.lemmas.Bool.Decides.{nat_tests}
use Rattle.std.proofs.lemmas.List.Elements.{All-cons, All-head, All-nil, All-tail}
use Rattle.std.proofs.lemmas.List.Sorted.{All-permutation, sum_by-IsPermutation, sum_by_pushed}
use Rattle.std.proofs.lemmas.List.Sums.{sum_by-cons}
use Rattle.list_laws.specs.Ordered.{ordered, insert_in_order}
use Rattle.list_laws.proofs.LeastLemmas.{take-insert_in_order}
use Rattle.track_types.specs.ByFilter.{near_order, nears_of}
use Rattle.track_types.specs.declared.near.Near.{Near}
use Rattle.k2_tree.specs.Squares.{Node, node}
use Rattle.box_tree.specs.Cost.{box_reads, opened_square_reads}
use Rattle.box_tree.specs.Levels.{digits, squares_in}
use Rattle.box_tree.specs.Places.{Places, Square, all_places, cell_passes, place_worth, square_places, held_square_count, square_worth}
use Rattle.box_tree.specs.Tree.{IsNodeOf, TreeView, levels_of, node_at, node_square, node_prefix, whole}
use Rattle.box_tree.specs.declared.node_ref.NodeRef.{NodeRef}
use Rattle.box_tree.proofs.NodeLemmas.{squares_in-own}
use Rattle.snapshots.specs.Parts.{chart_in}
use Rattle.nearest_search.specs.Cost.{is_no_farther, last_answer, period_near_cost}
use Rattle.nearest_search.specs.Kept.{ClosestView}
use Rattle.nearest_search.specs.Seeking.{Quest, AreSeeking, IsElement, IsOfTree, OpensWaiting, IsPaid, IsQuest, IsQueued}
use Rattle.nearest_search.specs.Seeking.{near_at, near_squares, places_in, seek_reads_at, square_in, sum_waiting, quest_tree, worth_left}
use Rattle.nearest_search.specs.declared.waiting.Element.{Element}
use Rattle.nearest_search.specs.declared.waiting.Waiting.{Waiting}
use Rattle.nearest_search.specs.declared.waiting.Waiting.TheVariants.{Node as AtNode, Place as AtPlace}
use Rattle.nearest_search.proofs.CostLemmas.{paid-by}
use Rattle.nearest_search.proofs.ElementLemmas.{alone-element, alone_of, are-places}
use Rattle.box_tree.proofs.PlacesLemmas.{run-whole}
use Rattle.nearest_search.proofs.SeekingLemmas.{answer-beyond, answer-end, place-apart, taken-enough}

-- nothing is kept of nothing
none-kept : (count : ℕ) → [] ≡ take count (ordered near_order [])
unfolding ordered
none-kept zero = refl
none-kept (suc count) = refl

-- a node is worth its box
box-worth : (test : Node → Bool) (places : Places) (sq : Square) → box_reads ≤ square_worth test places sq
unfolding square_worth
box-worth test places sq = omega arith

-- one element alone has the least key
least-alone : (e : Element) → All (λ (other : Element). e.key ≤ other.key) (e ∷ [])
least-alone e =
    All-cons (λ (other : Element). e.key ≤ other.key) e [] (omega arith) (All-nil (λ (other : Element). e.key ≤ other.key))

pub least-of : (e : Element) (others : List Element) → All (λ (other : Element). e.key ≤ other.key) others
    → All (λ (other : Element). e.key ≤ other.key) (e ∷ others)
least-of e others least = All-cons (λ (other : Element). e.key ≤ other.key) e others (omega arith) least

module _ (quest : Quest) (is : IsQuest quest) (count : ℕ) (some : 0 < count) where
  abbrev tree : TreeView
  tree = quest_tree quest

  abbrev test : Node → Bool
  test = near_squares quest count

  abbrev places : List ℕ
  places = all_places tree.places

  abbrev weighs : (ℕ → ℕ) → List Element → ℕ
  weighs weight = sum_waiting (λ w. sum_by weight (places_in quest w))

  -- the node of the whole grid
  module _ (root : NodeRef) (of : IsNodeOf tree root) (grid : node_square tree.narrow root ≡ whole tree)
      (places_are : 0 < length tree.places.codes) where
    run-root : square_places tree.places (node_square tree.narrow root) ≡ places
    run-root =
        ap (square_places tree.places) grid
        ∙ run-whole tree.places.codes (digits tree.places.levels) (are-places quest is).inside

    -- it is near enough
    root-enough : test (node_at root) ≡ true
    root-enough =
        let e : Element = alone_of quest is root of in
        let its : IsElement quest e = alone-element quest is root of in
        taken-enough quest is count some [] [] (e ∷ [])
        (All-nil (λ place. place < length tree.places.codes)) (none-kept count)
        (All-cons (IsElement quest) e [] its (All-nil (IsElement quest)))
        (λ weight.
        let nothing : sum_by weight [] ≡ 0 = refl in
        let none : weighs weight [] ≡ 0 = refl in
        omega (
          arith,
          nothing,
          none,
          sum_by-cons (λ (o : Element). sum_by weight (places_in quest o.waiting)) e [],
          ap (sum_by weight) run-root,
        )) e its (least-alone e) refl

    -- so squares pay for it
    root-paid : square_worth test tree.places (node_square tree.narrow root)
        ≤ opened_square_reads * held_square_count test tree.places + sum_by (place_worth test tree.places) places
    unfolding square_worth held_square_count
    root-paid =
        let levels : digits (levels_of tree.narrow root) ≡ digits tree.places.levels =
        ap (λ (sq : Square). digits sq.levels) grid in
        let prefix : node_prefix root ≡ 0 = ap (λ (sq : Square). sq.prefix) grid in
        let holds : test (node (digits tree.places.levels) 0) ≡ true =
        ap (λ n. test (node n 0)) (sym levels ∙ of.level) ∙ ap (λ q. test (node root.level q)) (sym prefix)
        ∙ root-enough in
        let own = squares_in-own test tree.places.codes tree.places.levels 0 holds in
        let held : nat_lt 0 (length tree.places.codes) ≡ true = grind (arith, nat_tests) in
        let counted : held_square_count test tree.places ≡ squares_in test tree.places.codes tree.places.levels 0 = rw held refl in
        omega (
          arith,
          own,
          counted,
          ap (square_worth test tree.places) grid,
          ap (sum_by (place_worth test tree.places))
              (run-whole tree.places.codes (digits tree.places.levels) (are-places quest is).inside),
        )

    -- and its box is paid, even where it is not put among what waits
    pub root-cost : (before steps : ℕ) → steps ≤ before + box_reads
        → steps ≤ before + period_near_cost quest.parts count quest.number quest.instant quest.cell
    root-cost before steps most =
        let paid = paid-by quest is count [] (All-nil (λ place. cell_passes test tree.places place ≡ true))
        (λ weight. omega arith) in
        let worth = root-paid in
        let box = box-worth test tree.places (node_square tree.narrow root) in
        omega (arith, most, paid, worth, box)

    -- it waits alone
    pub seeking-first : (before steps : ℕ) (elements : List Element) (closest : ClosestView)
        → IsQueued quest (AtNode root) [] elements
        → closest.wanted ≡ count → closest.nears ≡ [] → steps ≤ before + box_reads
        → AreSeeking quest count before elements closest steps
    seeking-first before steps elements closest queued wanted none most =
        let e : Element = queued.element in
        let moved : (f : Waiting → ℕ) → sum_waiting f elements ≡ f (AtNode root) =
        λ f.
        let nothing : sum_waiting f [] ≡ 0 = refl in
        omega (
          arith,
          nothing,
          sum_by_pushed (λ (o : Element). f o.waiting) e [] elements queued.moved,
          ap f queued.is,
        ) in
        record {
          sought = [];
          known = All-nil (λ place. place < length tree.places.codes);
          wanted = wanted;
          nears = none ∙ none-kept count;
          each = All-permutation (IsElement quest) (e ∷ []) elements queued.moved
              (All-cons (IsElement quest) e [] queued.its (All-nil (IsElement quest)));
          parted = λ weight.
              let nothing : sum_by weight [] ≡ 0 = refl in
              omega (
                arith,
                nothing,
                moved (λ w. sum_by weight (places_in quest w)),
                ap (sum_by weight) run-root,
              );
          enough = All-nil (λ place. cell_passes test tree.places place ≡ true);
          cost =
              let nothing : sum_by (seek_reads_at quest) [] ≡ 0 = refl in
              omega (
                arith,
                nothing,
                most,
                moved (worth_left quest test),
                root-paid,
                box-worth test tree.places (node_square tree.narrow root),
              );
        }

  -- with no place at all nothing waits
  pub seeking-none : (before steps : ℕ) (closest : ClosestView) → tree.places.codes ≡ []
      → closest.wanted ≡ count → closest.nears ≡ [] → steps ≤ before → AreSeeking quest count before [] closest steps
  seeking-none before steps closest empty wanted none most =
      let no_places : places ≡ [] = ap (λ codes. range_with_len 0 (length codes)) empty in
      record {
        sought = [];
        known = All-nil (λ place. place < length tree.places.codes);
        wanted = wanted;
        nears = none ∙ none-kept count;
        each = All-nil (IsElement quest);
        parted = λ weight.
            let nothing : sum_by weight [] ≡ 0 = refl in
            let neither : weighs weight [] ≡ 0 = refl in
            omega (arith, nothing, neither, ap (sum_by weight) no_places);
        enough = All-nil (λ place. cell_passes test tree.places place ≡ true);
        cost =
            let neither : sum_waiting (worth_left quest test) [] ≡ 0 = refl in
            omega (arith, neither, most);
      }

  module _ (before steps : ℕ) (closest : ClosestView) where
    -- the order in which things wait is of no account
    pub seeking-moved : (old new : List Element) → IsPermutation old new
        → AreSeeking quest count before old closest steps → AreSeeking quest count before new closest steps
    seeking-moved old new moved seeking = record {
      sought = seeking.sought;
      known = seeking.known;
      wanted = seeking.wanted;
      nears = seeking.nears;
      each = All-permutation (IsElement quest) old new moved seeking.each;
      parted = λ weight.
          omega (
            arith,
            seeking.parted weight,
            sum_by-IsPermutation (λ (e : Element). sum_by weight (places_in quest e.waiting)) old new moved,
          );
      enough = seeking.enough;
      cost = omega (
        arith,
        seeking.cost,
        sum_by-IsPermutation (λ (e : Element). worth_left quest test e.waiting) old new moved,
      );
    }

    -- all that was read is paid
    pub seeking-paid : (elements : List Element) → AreSeeking quest count before elements closest steps
        → steps + sum_waiting (worth_left quest test) elements
        ≤ before + period_near_cost quest.parts count quest.number quest.instant quest.cell
    seeking-paid elements seeking =
        let paid = paid-by quest is count seeking.sought seeking.enough (λ weight. omega (arith, seeking.parted weight)) in
        omega (arith, paid, seeking.cost)

    -- nothing waits any more
    pub seeking-end : (elements : List Element) → elements ≡ [] → AreSeeking quest count before elements closest steps
        → closest.nears ≡ nears_of (chart_in quest.parts).rows count quest.instant quest.cell
    seeking-end elements none seeking =
        answer-end quest is count some seeking.sought closest.nears elements seeking.known seeking.nears seeking.each
        seeking.parted none

    module _ (e : Element) (others : List Element) (seeking : AreSeeking quest count before (e ∷ others) closest steps)
        (least : All (λ (other : Element). e.key ≤ other.key) others) where
      -- what waits is farther than the last that is kept
      pub seeking-beyond : is_no_farther (last_answer count closest.nears) e.key ≡ false
          → closest.nears ≡ nears_of (chart_in quest.parts).rows count quest.instant quest.cell
      seeking-beyond beyond =
          answer-beyond quest is count some seeking.sought closest.nears (e ∷ others) seeking.known seeking.nears
          seeking.each seeking.parted e.key (least-of e others least) beyond

      -- otherwise what was taken is near enough
      pub seeking-enough : is_no_farther (last_answer count closest.nears) e.key ≡ true
          → test (square_in quest e.waiting) ≡ true
      seeking-enough holds =
          taken-enough quest is count some seeking.sought closest.nears (e ∷ others) seeking.known seeking.nears
          seeking.each seeking.parted e (All-head (IsElement quest) e others seeking.each) (least-of e others least) holds

    module _ (e : Element) (others : List Element) (seeking : AreSeeking quest count before (e ∷ others) closest steps) where
      of-element : IsElement quest e
      of-element = All-head (IsElement quest) e others seeking.each

      -- a node gave way to what it holds
      pub seeking-opened : (ref : NodeRef) (new : List Element) (later : ℕ) → e.waiting ≡ AtNode ref
          → test (node_at ref) ≡ true → OpensWaiting quest (AtNode ref) others new
          → IsPaid quest (AtNode ref) others new steps later → AreSeeking quest count before new closest later
      seeking-opened ref new later waits holds opened paid = record {
        sought = seeking.sought;
        known = seeking.known;
        wanted = seeking.wanted;
        nears = seeking.nears;
        each = opened.each (All-tail (IsElement quest) e others seeking.each);
        parted = λ weight.
            let f : Waiting → ℕ = λ w. sum_by weight (places_in quest w) in
            omega (
              arith,
              seeking.parted weight,
              opened.places weight,
              sum_by-cons (λ (o : Element). f o.waiting) e others,
              ap f waits,
            );
        enough = seeking.enough;
        cost =
            let f : Waiting → ℕ = worth_left quest test in
            omega (
              arith,
              seeking.cost,
              paid test holds,
              sum_by-cons (λ (o : Element). f o.waiting) e others,
              ap f waits,
            );
      }

      -- what is found at a place ties with none
      pub seeking-apart : (place : ℕ) (near : Near) → e.waiting ≡ AtPlace place → near_at quest place ≡ Some near
          → list_any (eq_by_cmp near_order near) closest.nears ≡ false
      seeking-apart place near waits found =
          place-apart quest is count some seeking.sought closest.nears (e ∷ others) seeking.known seeking.nears
          seeking.each seeking.parted e others place near refl waits found

      -- the place that waits is one of the tree's
      pub seeking-known : (place : ℕ) → e.waiting ≡ AtPlace place → place < length tree.places.codes
      seeking-known place waits = subst (IsOfTree quest) waits of-element.of

      pub seeking-node : (ref : NodeRef) → e.waiting ≡ AtNode ref → IsNodeOf tree ref
      seeking-node ref waits = subst (IsOfTree quest) waits of-element.of

      -- a place was sought
      pub seeking-sought : (place : ℕ) (next : ClosestView) (later : ℕ) → e.waiting ≡ AtPlace place
          → cell_passes test tree.places place ≡ true → later ≤ steps + seek_reads_at quest place → next.wanted ≡ count
          → next.nears ≡ take count (ordered near_order (filter_map (near_at quest) (place ∷ seeking.sought)))
          → AreSeeking quest count before others next later
      seeking-sought place next later waits holds most wanted nears = record {
        sought = place ∷ seeking.sought;
        known = All-cons (λ p. p < length tree.places.codes) place seeking.sought (seeking-known place waits) seeking.known;
        wanted = wanted;
        nears = nears;
        each = All-tail (IsElement quest) e others seeking.each;
        parted = λ weight.
            let f : Waiting → ℕ = λ w. sum_by weight (places_in quest w) in
            let nothing : sum_by weight [] ≡ 0 = refl in
            omega (
              arith,
              nothing,
              seeking.parted weight,
              sum_by-cons weight place seeking.sought,
              sum_by-cons weight place [],
              sum_by-cons (λ (o : Element). f o.waiting) e others,
              ap f waits,
            );
        enough = All-cons (λ p. cell_passes test tree.places p ≡ true) place seeking.sought holds seeking.enough;
        cost =
            let f : Waiting → ℕ = worth_left quest test in
            omega (
              arith,
              seeking.cost,
              most,
              sum_by-cons (seek_reads_at quest) place seeking.sought,
              sum_by-cons (λ (o : Element). f o.waiting) e others,
              ap f waits,
            );
      }

      -- the nearest with none more, and with one more
      pub nears-none : (place : ℕ) → near_at quest place ≡ None
          → closest.nears ≡ take count (ordered near_order (filter_map (near_at quest) (place ∷ seeking.sought)))
      nears-none place none = rw none seeking.nears

      pub nears-some : (place : ℕ) (near : Near) (next : List Near) → near_at quest place ≡ Some near
          → next ≡ take closest.wanted (insert_in_order near_order near closest.nears)
          → next ≡ take count (ordered near_order (filter_map (near_at quest) (place ∷ seeking.sought)))
      unfolding ordered
      nears-some place near next found is_next =
          rw found (is_next ∙ ap (λ k. take k (insert_in_order near_order near closest.nears)) seeking.wanted
          ∙ ap (λ ns. take count (insert_in_order near_order near ns)) seeking.nears
          ∙ sym (take-insert_in_order near_order count near (ordered near_order (filter_map (near_at quest) seeking.sought))))
