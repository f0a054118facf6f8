-- What the code finds around a place is what a join changes.
use Rattle.std.proofs.Common.{◌≡◌, ℕ, suc, ◌+◌, ◌*◌, ◌<◌, ◌≤◌, ◌==◌, Bool, true, false, not, ◌&&◌, cond, if◌then◌else◌, Option, Some, None, List, [], ◌∷◌, ◌++◌, length, take, drop, set, IfSome, rules, refl, sym, ◌∙◌, ap, arith, inl, inr, get_or}
use Rattle.std.specs.List.{Contains}
use Rattle.std.proofs.lemmas.List.Elements.{Contains-append_left, Contains-append_right}
use Rattle.list_laws.proofs.MemberLemmas.{first_member}
use Rattle.std.proofs.lemmas.Bool.Decides.{nat_tests}
use Rattle.std.proofs.lemmas.List.{append-nil}
use Rattle.std.proofs.lemmas.Bool.{cases_Bool, cases_lt, eq-eqb, ne_eqb, lt-ltb}
use Rattle.repair_grammar.specs.RePair.{is_pair}
use Rattle.repair_grammar.specs.Counts.{met_after}
use Rattle.repair_grammar.specs.Kept.{noted_at, times_of}
use Rattle.repair_grammar.specs.Runs.{begins_odd, ends_odd, left_gone, right_gone, left_come}
use Rattle.repair_grammar.specs.Threads.{at, live, AreThreads, HasEnds, IsUnmarked, IsCounted, IsPassing, IsAround, AreNeighbours, stands_at}
use Rattle.repair_grammar.specs.Joins.{plain_of, gone_left, gone_right, only_if, counts_left}
use Rattle.repair_grammar.proofs.PassLemmas.{replacement_count-le, left_of_pair, right_of_pair, whole_pair, overlap_step, counted_step}
use Rattle.repair_grammar.proofs.CountLemmas.{own_pair, times_of-own, times_of-some, times_of-none}
use Rattle.repair_grammar.proofs.ThreadLemmas.{live-before, live-stands, upto-live}
use Rattle.repair_grammar.proofs.RunLemmas.{ends_odd-last}
use Rattle.repair_grammar.proofs.FrontierLemmas.{counts-joined, stands-neighbours}
use Rattle.repair_grammar.proofs.CountedLemmas.{counted-joined, passing-join}
use Rattle.repair_grammar.specs.declared.symbol_row.TheConstants.{END, GAP}

module _ (other : ℕ × ℕ) (plain : IsUnmarked other) where
  pub plain_times : (x y : ℕ) → times_of (plain_of x y) other ≡ times_of (Some (x, y)) other
  unfolding plain_of times_of
  plain_times x y = grind (arith, nat_tests, left_of_pair, right_of_pair)

  pub gone_left-times : (front : List ℕ) (x a b : ℕ) → times_of
      (gone_left (ends_odd a false (front ++ x ∷ [])) x a b) other
      ≡ times_of (left_gone front x a b) other
  unfolding gone_left left_gone
  gone_left-times front x a b = grind (arith, nat_tests, plain_times)

  pub gone_right-times : (a b y : ℕ) (rest : List ℕ) → times_of (gone_right (begins_odd b (y ∷ rest)) a b y) other
      ≡ times_of (right_gone a b y rest) other
  unfolding gone_right right_gone
  gone_right-times a b y rest = grind (arith, nat_tests, plain_times)

  pub come_left-times : (front : List ℕ) (x c : ℕ) →
      times_of (only_if (counts_left (ends_odd c false (front ++ x ∷ [])) x c) (plain_of x c)) other
      ≡ times_of (left_come front x c) other
  unfolding left_come
  come_left-times front x c = grind (arith, nat_tests, plain_times)

-- a pair that counts once more or not
pub one_of : (counts : Bool) (pair other : ℕ × ℕ) →
    times_of (only_if counts (Some pair)) other ≡ cond (is_pair other pair.0 pair.1) (cond counts 1 0) 0
unfolding times_of
one_of true pair other = refl
one_of false pair other = grind (arith, nat_tests)

pub one_of_none : (counts : Bool) (other : ℕ × ℕ) → times_of (only_if counts None) other ≡ 0
unfolding times_of
one_of_none true other = refl
one_of_none false other = refl

-- the places after one more
pub kept_by : (old new : List ℕ) (here : Bool) (place k : ℕ) → new ≡ (if here then old ++ place ∷ [] else old) →
    Contains old k → Contains new k
kept_by old new true place k is inside = rw is (Contains-append_left old (place ∷ []) k inside)
kept_by old new false place k is inside = rw is inside

pub noted_by : (old new : List ℕ) (here : Bool) (place : ℕ) → new ≡ (if here then old ++ place ∷ [] else old) →
    here ≡ true → Contains new place
noted_by old new true place is own = rw is (Contains-append_right old (place ∷ []) place (first_member place []))
noted_by old new false place is own = absurd (cc)

-- the same as what is noted at its place
pub noted_as : (here : Bool) (old : List ℕ) (place : ℕ) →
    (if here then old ++ place ∷ [] else old) ≡ old ++ (if here then place ∷ [] else [])
noted_as true old place = refl
noted_as false old place = sym (append-nil old)

-- a place is noted as often as its pair is the one
length-noted_at : (pair : Option (ℕ × ℕ)) (place : ℕ) (other : ℕ × ℕ) → length (noted_at pair place other) ≡ times_of pair other
unfolding times_of
length-noted_at None place other = refl
length-noted_at (Some pair) place other = grind (arith, nat_tests)

pub times_le : (pair : Option (ℕ × ℕ)) (other : ℕ × ℕ) → times_of pair other ≤ 1
unfolding times_of
times_le None other = omega arith
times_le (Some pair) other = grind (arith, nat_tests)

-- a pair that is to count once less, counts
pub some_counts : (pair : Option (ℕ × ℕ)) (count : ℕ × ℕ → ℕ) → IfSome pair IsUnmarked →
    ((own : ℕ × ℕ) → IsUnmarked own → times_of pair own ≤ count own) → IfSome pair (λ own. 0 < count own)
some_counts None count plain enough = search rules
some_counts (Some pair) count plain enough = omega (arith, enough pair plain, times_of-own pair)

pub plain_is : (x y : ℕ) → IfSome (plain_of x y) IsUnmarked
unfolding plain_of
plain_is x y = grind (arith, nat_tests)

pub gone_left-plain : (odd : Bool) (x a b : ℕ) → a < END → IfSome (gone_left odd x a b) IsUnmarked
unfolding gone_left
gone_left-plain odd x a b fits = grind (arith, nat_tests, plain_is)

pub gone_right-plain : (odd : Bool) (a b y : ℕ) → b < END → IfSome (gone_right odd a b y) IsUnmarked
unfolding gone_right
gone_right-plain odd a b y fits = grind (arith, nat_tests, plain_is)

-- a pair that counts by a step is plain
pub counted_plain : (counts : Bool) (x y : ℕ) (other : ℕ × ℕ) → 0 < times_of (only_if counts (plain_of x y)) other →
    IsUnmarked other
unfolding plain_of times_of
counted_plain false x y other some = absurd (omega (arith, some))
counted_plain true x y other some = grind (arith, nat_tests, left_of_pair, right_of_pair)

live-length : (symbols : List ℕ) → length (live symbols) ≤ length symbols
unfolding live
live-length [] = omega arith
live-length (x ∷ symbols) = grind (arith, nat_tests, live-length symbols)

-- there is room for counts
pub counted_room : (symbols : List ℕ) (count : ℕ × ℕ → ℕ) (places : ℕ × ℕ → List ℕ) (own : ℕ × ℕ) →
    IsCounted symbols count places → IsUnmarked own → 2 * count own ≤ length symbols
counted_room symbols count places own counted plain = grind (arith, nat_tests, replacement_count-le, live-length)

pub some_weaker : (pair : Option (ℕ × ℕ)) (P Q : ℕ × ℕ → Type 0) → ((own : ℕ × ℕ) → P own → Q own) → IfSome pair P →
    IfSome pair Q
some_weaker None P Q weaker fact = search rules
some_weaker (Some own) P Q weaker fact = weaker own fact

some_of : (x y : ℕ) → x < END → y < END → plain_of x y ≡ Some (x, y)
unfolding plain_of
some_of x y x_plain y_plain = rw (lt-ltb x END x_plain, lt-ltb y END y_plain) refl

-- all that a join changes, at a place p whose neighbours are known
module _ (symbols : List ℕ) (p l m r before beyond c : ℕ) (around : IsAround symbols p l m r before beyond)
    (fits : c < GAP) (a b : ℕ) (is_a : at symbols p ≡ a) (is_b : at symbols m ≡ b) where
  -- the run that ends before p, and the one that begins beyond the pair
  pub ends_are : (u : ℕ) → ends_odd u false (live (take l symbols) ++ at symbols l ∷ []) ≡ ends_odd u false
      (live (take p symbols))
  ends_are u = ap (ends_odd u false) (sym (live-before symbols l p around.left_near))

  pub begins_are : (u : ℕ) → begins_odd u (at symbols r ∷ live (drop (r + 1) symbols)) ≡ begins_odd u
      (live (drop r symbols))
  begins_are u = ap (begins_odd u) (sym (live-stands symbols r around.next_near.within around.next_near.right_stands))

  -- the run of the new symbol that ends at p
  pub run_after : (odd : Bool) → ((before == c) ≡ true → odd ≡ ends_odd c false (live (take p symbols))) →
      counts_left (not odd) before c ≡ ends_odd c false (live (take (p + 1) (set (set symbols p c) m GAP)))
  run_after odd run = run_is ∙ sym (ap (ends_odd c false) (upto-live symbols p m r c around.near around.next_near fits)
      ∙ ends_odd-last c false (live (take p symbols)) c ∙ rw (eq-eqb c c refl) refl)
    where
      run_is : counts_left (not odd) before c ≡ not (ends_odd c false (live (take p symbols)))
      run_is = elim (cases_Bool (before == c)) [
        | inl is ↦ rw (is, run is) refl
        | inr apart ↦ rw (
          apart,
          sym (ends_are c),
          ends_odd-last c false (live (take l symbols)) (at symbols l),
          around.before_is,
          apart,
        ) refl
      ]

  abbrev pub came : ℕ × ℕ → ℕ
  came other = times_of (only_if (counts_left (ends_odd c false (live (take p symbols))) before c)
      (plain_of before c)) other
      + times_of (plain_of c beyond) other

  abbrev pub went : ℕ × ℕ → ℕ
  went other = times_of (gone_left (ends_odd a false (live (take p symbols))) before a b) other
      + times_of (Some (a, b)) other
      + times_of (gone_right (begins_odd b (live (drop r symbols))) a b beyond) other

  came-plain : (other : ℕ × ℕ) → 0 < came other → IsUnmarked other
  came-plain other some = elim (cases_lt 0 (times_of (plain_of c beyond) other)) [
    | inl right ↦ counted_plain true c beyond other right
    | inr none ↦ counted_plain (counts_left (ends_odd c false (live (take p symbols))) before c) before c other
        (omega (arith, some, none))
  ]

  pub came_is : (other : ℕ × ℕ) → IsUnmarked other → came other
      ≡ times_of (left_come (live (take l symbols)) (at symbols l) c) other + times_of (Some (c, at symbols r)) other
  came_is other plain = rw (
    sym around.before_is,
    sym around.after_is,
    sym (ends_are c),
    come_left-times other plain (live (take l symbols)) (at symbols l) c,
    plain_times other plain c (at symbols r),
  ) refl

  pub went_is : (other : ℕ × ℕ) → IsUnmarked other → went other
      ≡ times_of (left_gone (live (take l symbols)) (at symbols l) (at symbols p) (at symbols m)) other
      + times_of (Some (at symbols p, at symbols m)) other
      + times_of (right_gone (at symbols p) (at symbols m) (at symbols r) (live (drop (r + 1) symbols))) other
  went_is other plain = rw (
    sym is_a,
    sym is_b,
    sym around.before_is,
    sym around.after_is,
    sym (ends_are (at symbols p)),
    sym (begins_are (at symbols m)),
    gone_left-times other plain (live (take l symbols)) (at symbols l) (at symbols p) (at symbols m),
    gone_right-times other plain (at symbols p) (at symbols m) (at symbols r) (live (drop (r + 1) symbols)),
  ) refl

  -- what goes is counted once what comes is
  pub went_counts : (count : ℕ × ℕ → ℕ) (places : ℕ × ℕ → List ℕ) → IsCounted symbols count places →
      ((a == b) ≡ true → (before == a) ≡ false) →
      (c == a) ≡ false → (c == b) ≡ false → (c == beyond) ≡ false →
      (other : ℕ × ℕ) → IsUnmarked other → went other ≤ count other + came other
  went_counts count places counted begins new_a new_b new_r other plain = omega (
    arith,
    counted.counts other plain,
    came_is other plain,
    went_is other plain,
    counts-joined symbols p m r c around.near around.next_near fits l around.left_near other
        (λ same. rw (around.before_is, is_a) (begins (rw (is_a, is_b) at same))) (rw is_a new_a) (rw is_b new_b)
        (rw around.after_is new_r),
  )

  -- counts and places after the join
  pub counted_around : (next previous : List ℕ) (count count_after : ℕ × ℕ → ℕ) (places places_after : ℕ × ℕ → List ℕ) →
      AreThreads symbols next previous → HasEnds symbols → c < END → a < END → b < END →
      IsCounted symbols count places →
      ((a == b) ≡ true → (before == a) ≡ false) → (c == a) ≡ false → (c == b) ≡ false → (c == beyond) ≡ false →
      ((other : ℕ × ℕ) → count_after other + went other ≡ count other + came other) →
      ((other : ℕ × ℕ) (k : ℕ) → 0 < count_after other → Contains (places other) k → Contains (places_after other) k) →
      IfSome (plain_of c beyond) (λ own. 0 < count_after own → Contains (places_after own) p) →
      IfSome (plain_of before c) (λ own. 0 < count_after own → Contains (places_after own) l) →
      IsCounted (set (set symbols p c) m GAP) count_after places_after
  counted_around next previous count count_after places places_after threads ends c_plain a_plain b_plain counted begins
      new_a new_b new_r changes keeps right left =
      counted-joined symbols p m r c l around.near around.next_near around.left_near c_plain (rw is_a a_plain)
      (rw is_b b_plain) ends next previous threads
      (λ same. rw (around.before_is, is_a) (begins (rw (is_a, is_b) at same))) (rw is_a new_a) (rw is_b new_b)
      (rw around.after_is new_r) count count_after places places_after counted
      (λ other plain. omega (arith, changes other, came_is other plain, went_is other plain))
      (λ other some. elim (cases_lt 0 (came other)) [
        | inl comes ↦ came-plain other comes
        | inr none ↦ counted.plain other (omega (arith, changes other, none, some))
      ])
      keeps
      (λ after_plain. rw around.after_is (noted_of (λ own. 0 < count_after own → Contains (places_after own) p) c beyond
      c_plain (rw around.after_is at after_plain) right))
      (λ before_plain. rw around.before_is (noted_of
      (λ own. 0 < count_after own → Contains (places_after own) l) before c
      (rw around.before_is at before_plain) c_plain left))
    where
      noted_of : (P : ℕ × ℕ → Type 0) (x y : ℕ) → x < END → y < END → IfSome (plain_of x y) P → P (x, y)
      noted_of P x y x_plain y_plain noted = rw (some_of x y x_plain y_plain) at noted

  -- and the pass
  pub passing_around : (next previous : List ℕ) → AreThreads symbols next previous → HasEnds symbols →
      c < END → a < END → b < END →
      ((a == b) ≡ true → (before == a) ≡ false) → (c == a) ≡ false → (c == b) ≡ false → (c == beyond) ≡ false →
      (first places : List ℕ) (q : ℕ) → IsPassing first symbols (a, b) c (p ∷ places) q →
      ((k : ℕ) → Contains places k → p ≤ k) →
      IsPassing first (set (set symbols p c) m GAP) (a, b) c places (p + 1)
  passing_around next previous threads ends c_plain a_plain b_plain begins new_a new_b new_r first places q passing
      order =
      passing-join symbols p m r c l around.near around.next_near around.left_near c_plain (rw is_a a_plain)
      (rw is_b b_plain) ends next previous threads
      (λ same. rw (around.before_is, is_a) (begins (rw (is_a, is_b) at same))) (rw is_a new_a) (rw is_b new_b)
      (rw around.after_is new_r) (λ _. 0) (λ _. 0) (λ _. []) (λ _. []) first (a, b) places q passing order
      (rw (is_a, is_b) (own_pair a b))

-- one step of the first count
pub first_step : (taken : Bool) (pair : ℕ × ℕ) (x : ℕ) (rest : List ℕ) (i : ℕ) → i < length rest → IsUnmarked pair →
    met_after taken pair (x ∷ drop i rest)
    ≡ times_of (only_if (not (taken && (x == get_or rest i 0))) (plain_of x (get_or rest i 0))) pair
    + met_after (not (taken && (x == get_or rest i 0)) && (x == get_or rest i 0)) pair
    (get_or rest i 0 ∷ drop (i + 1) rest)
first_step taken pair x rest i within plain =
    grind (arith, nat_tests, overlap_step, times_of-none, counted_step, plain_times, times_of-some)

-- a row without gaps: neighbours stand side by side
pub row_near : (row : List ℕ) (k : ℕ) → ((j : ℕ) → j < length row → at row j < GAP) → k + 1 < length row →
    AreNeighbours row k (k + 1)
row_near row k words inside = grind (arith, nat_tests)

-- one place more is noted
pub first_noted : (row : List ℕ) (old new : ℕ × ℕ → List ℕ) (i x y : ℕ) →
    ((j : ℕ) → j < length row → at row j < GAP) → i + 1 < length row → at row i ≡ x → at row (i + 1) ≡ y →
    ((pair : ℕ × ℕ) (k : ℕ) → Contains (old pair) k → Contains (new pair) k) →
    IfSome (plain_of x y) (λ own. Contains (new own) i) →
    ((pair : ℕ × ℕ) (k : ℕ) → IsUnmarked pair → k < i → stands_at row pair k ≡ true → Contains (old pair) k) →
    (pair : ℕ × ℕ) (k : ℕ) → IsUnmarked pair → k < i + 1 → stands_at row pair k ≡ true → Contains (new pair) k
first_noted row old new i x y words inside is_x is_y keeps own before pair k plain below stands =
    elim (cases_lt k i) [
      | inl less ↦ keeps pair k (before pair k plain less stands)
      | inr more ↦
          let same : k ≡ i = omega (arith, more, below) in
          let pair_is : is_pair pair x y ≡ true =
          ap (λ z. is_pair pair z y) (sym is_x) ∙ ap (λ z. is_pair pair (at row i) z) (sym is_y)
          ∙ sym (stands-neighbours row pair i (i + 1) (row_near row i words inside))
          ∙ ap (stands_at row pair) (sym same) ∙ stands in
          let whole : (x, y) ≡ pair = whole_pair pair x y pair_is in
          let noted : Contains (new (x, y)) i = rw (some_of x y
          (omega (arith, left_of_pair pair x y pair_is, plain.0))
          (omega (arith, right_of_pair pair x y pair_is, plain.1))) at own in
          rw (same, sym whole) noted
    ]

pub live-all : (row : List ℕ) → ((j : ℕ) → j < length row → at row j < GAP) → live row ≡ row
unfolding live
live-all [] words = refl
live-all (x ∷ row) words =
    let here : x < GAP = words 0 (omega arith) in
    let apart : (x == GAP) ≡ false = ne_eqb x GAP (λ same. omega (arith, same, here)) in
    rw apart (ap (λ rest. x ∷ rest) (live-all row (λ j within. words (suc j) (omega arith))))

-- of two pairs that a new symbol has with its neighbours, which are not both the symbol, no other pair is both
times_of-apart : (x y : ℕ) (other : ℕ × ℕ) → (y == other.1) ≡ false → times_of (plain_of x y) other ≡ 0
unfolding times_of plain_of
times_of-apart x y other apart = grind (arith, nat_tests)

pub noted_once : (x s y left place : ℕ) (other : ℕ × ℕ) → (s == y) ≡ false →
    length (noted_at (plain_of x s) left other) + length (noted_at (plain_of s y) place other) ≤ 1
noted_once x s y left place other differ = grind (arith, nat_tests, length-noted_at, times_le, times_of-apart)
