-- What a node is worth: it is skipped, gives way to its children, or to its bucket.
use Rattle.std.proofs.Common.{◌≡◌, ℕ, zero, suc, ◌+◌, ◌-◌, ◌*◌, ◌/◌, ◌^◌, ◌<◌, ◌≤◌, Bool, true, false, List, [], ◌∷◌}
use Rattle.std.proofs.Common.{length, map, filter, refl, sym, ap, ◌∙◌, arith, lit≤, All}
use Rattle.std.specs.Prelude.{nat_lt, slice_index}
use Rattle.std.specs.List.{range_with_len, sum_by}
use Rattle.std.proofs.lemmas.Bool.{and_parts, false≢true}
use Rattle.std.proofs.Math.Nat.{div-one}
use Rattle.std.proofs.lemmas.List.Elements.{All-head, All-tail, All-weaker}
use Rattle.std.proofs.lemmas.List.Sums.{sum_by-cons}
use Rattle.std.proofs.lemmas.List.FromFn.{length-range_with_len}
use Rattle.list_laws.proofs.FlatLemmas.{sum_by-flat_map, sum_by-map}
use Rattle.track_types.specs.declared.cell_box.CellBox.{CellBox}
use Rattle.track_types.specs.declared.limit.TheConstants.{MAX_HEIGHT}
use Rattle.k2_tree.specs.Areas.{IsBoxInside}
use Rattle.k2_tree.specs.Squares.{Node, node}
use Rattle.box_tree.specs.Levels.{children, digits, square_start, run, squares_in}
use Rattle.box_tree.specs.Places.{Places, ArePassed, ArePlaces, Ascends, box_at, cell_passes, place_worth}
use Rattle.box_tree.specs.Places.{square_worth, place_passes, square_with}
use Rattle.box_tree.specs.Tests.{Tests}
use Rattle.box_tree.specs.Held.{IsBucket}
use Rattle.box_tree.proofs.RunLemmas.{run-children, run-prefix}

-- nothing passes where each fails
filter-fails : (p : ℕ → Bool) (xs : List ℕ) → All (λ x. p x ≡ false) xs → filter p xs ≡ []
filter-fails p [] each = refl
filter-fails p (x ∷ xs) each =
    let P : ℕ → Type 0 = λ y. p y ≡ false in
    rw (All-head P x xs each) (filter-fails p xs (All-tail P x xs each))

-- what passes only where another does fails where that fails
fails-by : (a b : Bool) → (a ≡ true → b ≡ true) → b ≡ false → a ≡ false
fails-by true b only fails = absurd (false≢true (sym fails ∙ only refl))
fails-by false b only fails = refl

module _ (tests : Tests) (mono : ArePassed tests) (places : Places) where
  -- a square that fails has no place that passes
  pub skipped-square : (n prefix : ℕ) → n ≤ MAX_HEIGHT → ArePlaces places → tests.square (node n prefix) ≡ false
      → filter (place_passes tests places) (run places.codes n prefix) ≡ []
  unfolding place_passes
  skipped-square n prefix deep are fails =
      filter-fails (place_passes tests places) (run places.codes n prefix)
      (All-weaker (λ place. (slice_index places.codes place / 4 ^ n ≡ prefix) × (place < length places.codes))
      (λ place. place_passes tests places place ≡ false)
      (λ place its. fails-by (place_passes tests places place) (tests.square (node n prefix))
      (λ all. rw its.0 at (mono.square n (slice_index places.codes place) deep (are.small place 0 its.1)
      (and_parts _ _ all).1)) fails)
      (run places.codes n prefix) (run-prefix places.codes n prefix are.ascend))

  -- so has one whose box fails
  pub skipped-box : (run : List ℕ) (area : CellBox) → All (λ place. IsBoxInside (box_at places.boxes place) area) run
      → tests.area area ≡ false → filter (place_passes tests places) run ≡ []
  unfolding place_passes
  skipped-box run area covers fails =
      filter-fails (place_passes tests places) run
      (All-weaker (λ place. IsBoxInside (box_at places.boxes place) area) (λ place. place_passes tests places place ≡ false)
      (λ place its. fails-by (place_passes tests places place) (tests.area area)
      (λ all. mono.area (box_at places.boxes place) area its (and_parts _ _ all).0) fails) run covers)

-- so much for each, and two sums
sum_by-three : (s r : ℕ → ℕ) (xs : List ℕ)
    → sum_by (λ x. 3 + (48 * s x + r x)) xs ≡ 3 * length xs + (48 * sum_by s xs + sum_by r xs)
sum_by-three s r [] = omega arith
sum_by-three s r (x ∷ xs) =
    omega (
      arith,
      sum_by-cons (λ y. 3 + (48 * s y + r y)) x xs,
      sum_by-cons s x xs,
      sum_by-cons r x xs,
      sum_by-three s r xs,
    )

-- a filter keeps at most all
pub length-kept : (p : ℕ → Bool) (xs : List ℕ) → length (filter p xs) ≤ length xs
length-kept p [] = omega arith
length-kept p (x ∷ xs) = grind (arith, length-kept p xs)

-- a level of at most two digits has at most sixteen children
pub few-children : (codes : List ℕ) (n level prefix : ℕ) → level ≤ 2 → length (children codes n level prefix) ≤ 16
unfolding children
few-children codes n level prefix low =
    let kept = length-kept (λ q. nat_lt (square_start codes n q) (square_start codes n (q + 1)))
    (range_with_len (4 ^ level * prefix) (4 ^ level)) in
    let most : 4 ^ level ≤ 16 = fan-le level low in
    omega (arith, length-kept, length-range_with_len (4 ^ level * prefix) (4 ^ level), most)
  where
    fan-le : (level : ℕ) → level ≤ 2 → 4 ^ level ≤ 16
    fan-le zero low = lit≤ tt
    fan-le (suc zero) low = lit≤ tt
    fan-le (suc (suc zero)) low = lit≤ tt
    fan-le (suc (suc (suc n))) low = absurd (omega arith)

-- a square that passes is one of those that do
pub squares_in-own : (test : Node → Bool) (codes levels : List ℕ) (prefix : ℕ)
    → test (node (digits levels) prefix) ≡ true
    → 1 ≤ squares_in test codes levels prefix
unfolding squares_in
squares_in-own test codes [] prefix holds = rw holds (omega arith)
squares_in-own test codes (level ∷ levels) prefix holds = rw holds (omega arith)

module _ (test : Node → Bool) (places : Places) where
  -- a square that passes pays for its children
  pub square_worth-branch : (level : ℕ) (levels : List ℕ) (prefix : ℕ) → level ≤ 2
      → test (node (level + digits levels) prefix) ≡ true
      → sum_by (square_worth test places) (map (square_with levels) (children places.codes (digits levels) level prefix)) + 3
      ≤ square_worth test places (square_with (level ∷ levels) prefix)
  unfolding square_worth squares_in
  square_worth-branch level levels prefix low passes =
      let n : ℕ = digits levels in
      let codes : List ℕ = places.codes in
      let below : List ℕ = children codes n level prefix in
      let s : ℕ → ℕ = squares_in test codes levels in
      let r : ℕ → ℕ = λ q. sum_by (place_worth test places) (run codes n q) in
      let mapped : sum_by (square_worth test places) (map (square_with levels) below) ≡ sum_by
      (λ q. 3 + (48 * s q + r q)) below =
      sum_by-map (square_worth test places) (square_with levels) below in
      let summed = sum_by-three s r below in
      let few = few-children codes n level prefix low in
      let cells : sum_by (place_worth test places) (run codes (level + n) prefix) ≡ sum_by r below =
      ap (sum_by (place_worth test places)) (run-children codes n level prefix)
      ∙ sum_by-flat_map (place_worth test places) (run codes n) below in
      rw passes (omega (arith, mapped, summed, few, cells))

  -- and for a bucket of few places
  pub square_worth-bucket : (levels : List ℕ) (prefix low high : ℕ) → test (node (digits levels) prefix) ≡ true
      → high ≤ low + 16 → 3 * (high - low) + 3 ≤ square_worth test places (square_with levels prefix)
  unfolding square_worth
  square_worth-bucket levels prefix low high passes few =
      let own = squares_in-own test places.codes levels prefix passes in
      omega (arith, own)

  -- in a cell that passes each place pays for itself
  pub square_worth-cell : (prefix low high : ℕ) → Ascends 0 places.codes → test (node 0 prefix) ≡ true
      → IsBucket places.codes 0 prefix low high → 3 * (high - low) + 3 ≤ square_worth test places (square_with [] prefix)
  unfolding square_worth run
  square_worth-cell prefix low high up holds is =
      let places_of : List ℕ = range_with_len low (high - low) in
      let all : sum_by (place_worth test places) (run places.codes 0 prefix) ≡ 3 * length (run places.codes 0 prefix) =
      each (run places.codes 0 prefix)
      (All-weaker (λ place. (slice_index places.codes place / 4 ^ 0 ≡ prefix) × (place < length places.codes))
      (λ place. cell_passes test places place ≡ true)
      (λ place its. ap (λ c. test (node 0 c)) (sym (div-one (slice_index places.codes place)) ∙ its.0) ∙ holds)
      (run places.codes 0 prefix) (run-prefix places.codes 0 prefix up)) in
      let long : length (run places.codes 0 prefix) ≡ high - low =
      length-range_with_len (square_start places.codes 0 prefix)
      (square_start places.codes 0 (prefix + 1) - square_start places.codes 0 prefix)
      ∙ rw (is.low_is, is.high_is) refl in
      omega (arith, all, long)
    where
      each : (xs : List ℕ) → All (λ place. cell_passes test places place ≡ true) xs
          → sum_by (place_worth test places) xs ≡ 3 * length xs
      each [] holds = refl
      each (x ∷ xs) holds =
          let P : ℕ → Type 0 = λ place. cell_passes test places place ≡ true in
          let here : place_worth test places x ≡ 3 = rw (All-head P x xs holds) refl in
          omega (arith, sum_by-cons (place_worth test places) x xs, here, each xs (All-tail P x xs holds))
