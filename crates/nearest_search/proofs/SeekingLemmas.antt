-- What is found while the least key is taken first, and that what is taken is near enough.
use Rattle.std.proofs.Common.{◌≡◌, ℕ, ◌+◌, ◌<◌, ◌≤◌, true, false, List, [], ◌∷◌, ◌++◌, length, take}
use Rattle.std.proofs.Common.{All, Option, None, Some, get_or, refl, sym, subst, ◌∙◌, ap, arith, inl, inr}
use Rattle.std.specs.Prelude.{◌==◌, IfSome, nat_lt, slice_index}
use Rattle.std.specs.List.{filter_map, flat_map, list_any, range_with_len, sum_by}
use Rattle.std.specs.Ordering.{eq_by_cmp}
use Rattle.std.proofs.lemmas.Bool.{cases_Bool, eq-eqb}
use Rattle.std.proofs.lemmas.Bool.Decides.{nat_tests}
use Rattle.std.proofs.lemmas.List.Elements.{All-append, All-cons, All-contains_itself, All-nil, All-weaker}
use Rattle.std.proofs.lemmas.List.Sums.{sum_by-append, sum_by-cons}
use Rattle.list_laws.specs.Ordered.{ordered}
use Rattle.list_laws.proofs.FlatLemmas.{sum_by-flat_map, sum_by-map, All-flat_map}
use Rattle.list_laws.proofs.LeastLemmas.{least-take}
use Rattle.list_laws.proofs.OptionLemmas.{All-made}
use Rattle.list_laws.proofs.OrderedLemmas.{all-ordered}
use Rattle.list_laws.proofs.SumLemmas.{made_weight, sum_by-filter_map}
use Rattle.track_types.specs.ByFilter.{near_order, nearest_among, nears_at, nears_of}
use Rattle.track_types.specs.declared.near.Near.{Near}
use Rattle.track_types.specs.declared.row.Row.{Row}
use Rattle.track_types.proofs.NearLemmas.{near_order_total}
use Rattle.box_tree.specs.Places.{all_places}
use Rattle.box_tree.specs.Levels.{digits}
use Rattle.box_tree.specs.Tree.{TreeView, levels_of, node_prefix}
use Rattle.k2_tree.specs.Areas.{area_at}
use Rattle.snapshots.specs.Objects.{WeighSame}
use Rattle.snapshots.specs.Parts.{chart_in, rules_in, snapshot_in}
use Rattle.snapshots.specs.Sound.{IsBlock}
use Rattle.snapshots.specs.Speed.{reach_of}
use Rattle.snapshots.specs.TrackWalk.{block_kept}
use Rattle.snapshots.specs.View.{SnapshotView, all_blocks, block_of}
use Rattle.snapshots.specs.declared.anchored.Anchored.{Anchored}
use Rattle.snapshots.proofs.BlockFactsLemmas.{All-all_blocks, IsBlock-from_block_of}
use Rattle.snapshots.proofs.ByObjectLemmas.{index-from_block_of}
use Rattle.snapshots.proofs.LeafOrderLemmas.{by_leaf-weighs}
use Rattle.snapshots.proofs.TracksLemmas.{all-kept}
use Rattle.object_track.proofs.BlockLemmas.{block-known}
use Rattle.nearest_search.specs.Cost.{box_dist2, is_near_enough, is_no_farther, last_answer}
use Rattle.nearest_search.specs.Found.{near_in}
use Rattle.nearest_search.specs.Seeking.{Quest, IsElement, IsOfTree, IsQuest, near_at, near_squares, places_in, square_in, sum_waiting, quest_tree}
use Rattle.nearest_search.specs.declared.waiting.Element.{Element}
use Rattle.nearest_search.specs.declared.waiting.Waiting.{Waiting}
use Rattle.nearest_search.specs.declared.waiting.Waiting.TheVariants.{Node as AtNode, Place as AtPlace}
use Rattle.nearest_search.proofs.ElementLemmas.{kept-block, snap}
use Rattle.nearest_search.proofs.FoundLemmas.{nears_at-blocks, none-taken, object-of, same-place, seen-one, seen-small, IsSeen}
use Rattle.nearest_search.proofs.NearsLemmas.{far, is_nearer, kept-nearer, last-agrees, nearer_count, ordered-same, take-beyond}
use Rattle.nearest_search.proofs.OnceLemmas.{apart-none, apart-once, has_object, range-once, sum_by-none}
use Rattle.box_tree.proofs.PlacesLemmas.{run-within}

-- what is no farther than something that is near enough is near enough
pub no-farther-le : (last : Option Near) (a b : ℕ) → a ≤ b → is_no_farther last b ≡ true → is_no_farther last a ≡ true
no-farther-le None a b low holds = refl
no-farther-le (Some last) a b low holds = grind (arith, nat_tests)

-- what is there as often as 1 is there
has-some : (object : ℕ) (near : Near) → 0 < has_object object near → near.object ≡ object
has-some object near some = elim (cases_Bool (near.object == object)) [
  | inl same ↦ grind (arith, nat_tests)
  | inr differ ↦ let none : has_object object near ≡ 0 = rw differ refl in absurd (omega (arith, none, some))
]

has-low : (object : ℕ) (near : Near) → has_object object near ≤ 1
has-low object near = elim (cases_Bool (near.object == object)) [
  | inl same ↦ rw same (omega arith)
  | inr differ ↦ rw differ (omega arith)
]

module _ (quest : Quest) (is : IsQuest quest) where
  abbrev view : SnapshotView
  view = snapshot_in quest.parts quest.number

  abbrev tree : TreeView
  tree = quest_tree quest

  abbrev rows : List Row
  rows = (chart_in quest.parts).rows

  abbrev near_of_block : Anchored → Option Near
  near_of_block = near_in quest.parts quest.number quest.instant quest.cell

  -- how near all rows of the instant are
  abbrev all : List Near
  all = nears_at rows quest.instant quest.cell

  abbrev Seen : Near → Type 0
  Seen = IsSeen quest.parts is.valid quest.number is.within quest.instant quest.cell

  all-blocks : all ≡ filter_map near_of_block (all_blocks view)
  all-blocks = nears_at-blocks quest.parts is.valid quest.number is.within quest.instant quest.cell is.when

  -- all places together have them
  found-weighs : (weight : Near → ℕ) → sum_by weight (filter_map (near_at quest) (all_places tree.places)) ≡ sum_by weight all
  unfolding WeighSame
  found-weighs weight =
      let of : Anchored → ℕ = λ block. made_weight weight (near_of_block block) in
      sum_by-filter_map weight (near_at quest) (all_places tree.places)
      ∙ sym (sum_by-map of (block_kept quest.kept) (all_places tree.places))
      ∙ ap (sum_by of) (all-kept view (snap quest is) (rules_in quest.parts) quest.kept is.kept)
      ∙ by_leaf-weighs view (snap quest is) of
      ∙ sym (sum_by-filter_map weight near_of_block (all_blocks view))
      ∙ ap (sum_by weight) (sym all-blocks)

  -- an object's block, if it is near
  module _ (object : ℕ) where
    abbrev of_block : Anchored → ℕ
    of_block block = made_weight (has_object object) (near_of_block block)

    abbrev of_index : ℕ → ℕ
    of_index index = made_weight of_block (block_of view index)

    block-low : (found : Option Near) → made_weight (has_object object) found ≤ 1
    block-low None = omega arith
    block-low (Some near) = has-low object near

    index-low : (index : ℕ) → of_index index ≤ 1
    index-low index = by_block (block_of view index)
      where
        by_block : (found : Option Anchored) → made_weight of_block found ≤ 1
        by_block None = omega arith
        by_block (Some block) = block-low (near_of_block block)

    index-some : (index : ℕ) → 0 < of_index index
        → (index < length quest.parts.objects) × (slice_index quest.parts.objects index ≡ object)
    index-some index some = by_block (block_of view index) refl some
      where
        by_near : (block : Anchored) → block_of view index ≡ Some block → (found : Option Near)
            → near_of_block block ≡ found → 0 < made_weight (has_object object) found
            → (index < length quest.parts.objects) × (slice_index quest.parts.objects index ≡ object)
        by_near block has None found some = absurd (omega (arith, some))
        by_near block has (Some near) found some =
            let own : block.index ≡ index = index-from_block_of view index block has in
            let its : IsBlock view block = IsBlock-from_block_of view (snap quest is) index block has in (
              omega (arith, own, block-known quest.parts is.valid quest.number is.within block its),
              ap (slice_index quest.parts.objects) (sym own)
                  ∙ object-of quest.parts is.valid quest.number is.within quest.instant quest.cell block near found
                  ∙ has-some object near some,
            )

        by_block : (found : Option Anchored) → block_of view index ≡ found → 0 < made_weight of_block found
            → (index < length quest.parts.objects) × (slice_index quest.parts.objects index ≡ object)
        by_block None has some = absurd (omega (arith, some))
        by_block (Some block) has some = by_near block has (near_of_block block) refl some

    -- it comes once
    object-once : sum_by (has_object object) all ≤ 1
    unfolding all_blocks
    object-once =
        let once = range-once of_index index-low (λ i j first second.
        let a = index-some i first in
        let b = index-some j second in
        same-place quest.parts is.valid quest.number is.within quest.instant quest.cell i j a.0 b.0 (a.1 ∙ sym b.1))
        0 (length quest.parts.objects) in
        omega (
          arith,
          once,
          ap (sum_by (has_object object)) all-blocks,
          sum_by-filter_map (has_object object) near_of_block (all_blocks view),
          sum_by-filter_map of_block (block_of view) (range_with_len 0 (length quest.parts.objects)),
        )

  -- the answers are the first of them in order
  pub nears_of-is : (count : ℕ) → nears_of rows count quest.instant quest.cell ≡ take count (ordered near_order all)
  unfolding nears_of nearest_among
  nears_of-is count = least-take near_order near_order_total count all (apart-once all object-once)

  seen-places : (places : List ℕ) → All (λ place. place < length tree.places.codes) places
      → All Seen (filter_map (near_at quest) places)
  seen-places places known =
      All-made (near_at quest) (λ place. place < length tree.places.codes) Seen
      (λ place near within found. record {
        block = block_kept quest.kept place;
        its = kept-block quest is place within;
        is = found;
      }) places known

  seen-all : All Seen all
  seen-all =
      subst (All Seen) (sym all-blocks)
      (All-made near_of_block (IsBlock view) Seen (λ block near its found. record { block = block; its = its; is = found })
      (all_blocks view) (All-all_blocks view (snap quest is)))

  -- the places of what waits are all known
  known-in : (waiting : Waiting) → IsOfTree quest waiting
      → All (λ place. place < length tree.places.codes) (places_in quest waiting)
  known-in (AtNode ref) of = λ k d within.
      run-within tree.places.codes (digits (levels_of tree.narrow ref)) (node_prefix ref)
      (get_or (places_in quest (AtNode ref)) k d) (All-contains_itself (places_in quest (AtNode ref)) k d within)
  known-in (AtPlace place) of =
      All-cons (λ p. p < length tree.places.codes) place [] of (All-nil (λ p. p < length tree.places.codes))

  module _ (count : ℕ) (some : 0 < count) (sought : List ℕ) (nears : List Near) (elements : List Element)
      (known : All (λ place. place < length tree.places.codes) sought)
      (nears_is : nears ≡ take count (ordered near_order (filter_map (near_at quest) sought)))
      (each : All (IsElement quest) elements)
      (parted : (weight : ℕ → ℕ) → sum_by weight sought + sum_waiting (λ w. sum_by weight (places_in quest w)) elements
      ≡ sum_by weight (all_places tree.places)) where
    abbrev found : List Near
    found = filter_map (near_at quest) sought

    abbrev rest : List ℕ
    rest = flat_map (λ (e : Element). places_in quest e.waiting) elements

    -- what was found and what waits weighs as all does
    both-weigh : (weight : Near → ℕ)
        → sum_by weight found + sum_waiting (λ w. sum_by (λ p. made_weight weight (near_at quest p)) (places_in quest w)) elements
        ≡ sum_by weight all
    both-weigh weight =
        omega (
          arith,
          parted (λ p. made_weight weight (near_at quest p)),
          sum_by-filter_map weight (near_at quest) sought,
          sum_by-filter_map weight (near_at quest) (all_places tree.places),
          found-weighs weight,
        )

    -- none that waits is nearer than the least key
    none-nearer : (key : ℕ) → All (λ (e : Element). key ≤ e.key) elements
        → sum_waiting (λ w. sum_by (λ p. made_weight (is_nearer key) (near_at quest p)) (places_in quest w)) elements ≡ 0
    none-nearer key least =
        sum_by-none (λ (e : Element). sum_by (λ p. made_weight (is_nearer key) (near_at quest p)) (places_in quest e.waiting))
        elements (λ k d within.
        let e : Element = get_or elements k d in
        sum_by-none (λ p. made_weight (is_nearer key) (near_at quest p)) (places_in quest e.waiting)
        (All-weaker (λ p. IfSome (near_at quest p) (λ (near : Near). e.key ≤ near.dist2))
        (λ p. made_weight (is_nearer key) (near_at quest p) ≡ 0)
        (λ p. beyond (near_at quest p) e.key (least k d within)) (places_in quest e.waiting) (each k d within).near))
      where
        beyond : (o : Option Near) (low : ℕ) → key ≤ low → IfSome o (λ (near : Near). low ≤ near.dist2)
            → made_weight (is_nearer key) o ≡ 0
        beyond None low least its = refl
        beyond (Some near) low least its =
            let no : nat_lt near.dist2 key ≡ false = grind (arith, nat_tests) in rw no refl

    -- so what is no farther than the last that is kept is no farther than the last answer
    pub far-agrees : (key : ℕ) → All (λ (e : Element). key ≤ e.key) elements
        → is_no_farther (last_answer count nears) key
        ≡ is_no_farther (last_answer count (nears_of rows count quest.instant quest.cell)) key
    far-agrees key least =
        let same : nearer_count key found ≡ nearer_count key all =
        omega (arith, both-weigh (is_nearer key), none-nearer key least) in
        ap (λ ns. is_no_farther (last_answer count ns) key) nears_is
        ∙ last-agrees key count found all some same
        ∙ sym (ap (λ ns. is_no_farther (last_answer count ns) key) (nears_of-is count))

    -- and what waits with the least key is near enough, where it is no farther than the last that is kept
    pub taken-enough : (e : Element) → IsElement quest e → All (λ (other : Element). e.key ≤ other.key) elements
        → is_no_farther (last_answer count nears) e.key ≡ true
        → near_squares quest count (square_in quest e.waiting) ≡ true
    unfolding is_near_enough
    taken-enough e its least holds =
        no-farther-le (last_answer count (nears_of rows count quest.instant quest.cell))
        (box_dist2 quest.cell (reach_of quest.parts quest.number quest.instant
        (area_at tree.base (square_in quest e.waiting)))) e.key its.reach (sym (far-agrees e.key least) ∙ holds)

    -- where those that wait do not count, the nearest that are kept are the answer
    answer-from : take count (ordered near_order (filter_map (near_at quest) rest ++ found)) ≡ take count (ordered near_order found)
        → nears ≡ nears_of rows count quest.instant quest.cell
    answer-from same =
        let others : List Near = filter_map (near_at quest) rest in
        let known_rest : All (λ place. place < length tree.places.codes) rest =
        All-flat_map (λ place. place < length tree.places.codes) (λ (e : Element). places_in quest e.waiting) elements
        (λ k d within. known-in (get_or elements k d).waiting (each k d within).of) in
        let order : ordered near_order (others ++ found) ≡ ordered near_order all =
        ordered-same Seen (seen-small quest.parts is.valid quest.number is.within quest.instant quest.cell)
        (seen-one quest.parts is.valid quest.number is.within quest.instant quest.cell) (others ++ found) all
        (All-append Seen others found (seen-places rest known_rest) (seen-places sought known)) seen-all
        (λ weight.
        omega (
          arith,
          sum_by-append weight others found,
          sum_by-filter_map weight (near_at quest) rest,
          sum_by-flat_map (λ p. made_weight weight (near_at quest p)) (λ (e : Element). places_in quest e.waiting) elements,
          both-weigh weight,
        )) in
        nears_is ∙ sym same ∙ ap (take count) order ∙ sym (nears_of-is count)

    pub answer-end : elements ≡ [] → nears ≡ nears_of rows count quest.instant quest.cell
    answer-end none =
        answer-from (ap (λ es. take count (ordered near_order
        (filter_map (near_at quest) (flat_map (λ (e : Element). places_in quest e.waiting) es) ++ found))) none)

    pub answer-beyond : (key : ℕ) → All (λ (e : Element). key ≤ e.key) elements
        → is_no_farther (last_answer count nears) key ≡ false → nears ≡ nears_of rows count quest.instant quest.cell
    answer-beyond key least beyond =
        let others : List Near = filter_map (near_at quest) rest in
        let far_off : All (λ near. key ≤ far near) others =
        All-made (near_at quest) (λ p. IfSome (near_at quest p) (λ (near : Near). key ≤ near.dist2)) (λ near. key ≤ far near)
        (λ p near its is. subst (λ o. IfSome o (λ (n : Near). key ≤ n.dist2)) is its) rest
        (All-flat_map (λ p. IfSome (near_at quest p) (λ (near : Near). key ≤ near.dist2))
        (λ (e : Element). places_in quest e.waiting) elements (λ k d within.
        let e : Element = get_or elements k d in
        All-weaker (λ p. IfSome (near_at quest p) (λ (near : Near). e.key ≤ near.dist2))
        (λ p. IfSome (near_at quest p) (λ (near : Near). key ≤ near.dist2))
        (λ p. farther (near_at quest p) e.key (least k d within)) (places_in quest e.waiting) (each k d within).near)) in
        answer-from (take-beyond key count others found far_off
        (kept-nearer key count found some (ap (λ ns. is_no_farther (last_answer count ns) key) (sym nears_is) ∙ beyond)))
      where
        farther : (o : Option Near) (low : ℕ) → key ≤ low → IfSome o (λ (near : Near). low ≤ near.dist2)
            → IfSome o (λ (near : Near). key ≤ near.dist2)
        farther None low least its = tt
        farther (Some near) low least its = omega (arith, least, its)

    -- what is found at a place that waits ties with none that is kept
    pub place-apart : (e : Element) (others : List Element) (place : ℕ) (near : Near) → elements ≡ e ∷ others
        → e.waiting ≡ AtPlace place → near_at quest place ≡ Some near
        → list_any (eq_by_cmp near_order near) nears ≡ false
    place-apart e others place near split waits is =
        let weight : ℕ → ℕ = λ p. made_weight (has_object near.object) (near_at quest p) in
        let in_it : Element → ℕ = λ (other : Element). sum_by weight (places_in quest other.waiting) in
        let yes : (near.object == near.object) ≡ true = eq-eqb near.object near.object refl in
        let one : weight place ≡ 1 = ap (made_weight (has_object near.object)) is ∙ rw yes refl in
        let own : in_it e ≡ 1 =
        ap (λ w. sum_by weight (places_in quest w)) waits ∙ sum_by-cons weight place [] ∙ omega (arith, one) in
        let none : sum_by (has_object near.object) found ≡ 0 =
        omega (
          arith,
          both-weigh (has_object near.object),
          object-once near.object,
          own,
          ap (sum_by in_it) split,
          sum_by-cons in_it e others,
        ) in
        ap (list_any (eq_by_cmp near_order near)) nears_is
        ∙ none-taken (eq_by_cmp near_order near) count (ordered near_order found)
        (all-ordered near_order (λ other. eq_by_cmp near_order near other ≡ false) found (apart-none near found none))
