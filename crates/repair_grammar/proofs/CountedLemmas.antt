-- A round along the threads: counts and places after a join, and the pass as far as it is done.
use Rattle.std.proofs.Common.{◌≡◌, ◌≢◌, ℕ, ◌+◌, ◌-◌, ◌<◌, ◌≤◌, ◌==◌, Bool, true, false, not, Some, List, [], ◌∷◌, ◌++◌, length, get_or, take, drop, refl, sym, ◌∙◌, ap, arith, inl, inr}
use Rattle.std.specs.List.{Contains}
use Rattle.std.specs.List.Sorted.{IsNonDecreasing}
use Rattle.std.proofs.lemmas.Bool.{cases_Bool, cases_lt, and_parts, eqb-true, eqb-false, ne_eqb, eq-eqb}
use Rattle.std.proofs.lemmas.List.{get_or_past, get_or_default, drop_all, take_all, append-nil, length-drop, get_or-drop}
use Rattle.std.proofs.lemmas.Bool.Decides.{nat_tests}
use Rattle.list_laws.proofs.MemberLemmas.{member_cases, no_member}
use Rattle.repair_grammar.specs.RePair.{is_pair, replacement_count, block_after_pass}
use Rattle.repair_grammar.specs.Counts.{stands_first}
use Rattle.repair_grammar.specs.Kept.{times_of}
use Rattle.repair_grammar.specs.Runs.{ends_odd, left_gone, right_gone, left_come}
use Rattle.repair_grammar.specs.Threads.{at, live, stands_at, passed_from, AreNeighbours, AreThreads, HasEnds, IsUnmarked, IsCounted, IsPassing, IsRun}
use Rattle.repair_grammar.proofs.PassLemmas.{replacement_count-step, stands_first-whole, whole_pair, left_of_pair, right_of_pair, block_after_pass-none}
use Rattle.repair_grammar.proofs.ThreadLemmas.{same_or, live-none, live-cut, live-here, not_first, not_last, after, after-place, after-gone, after-other, after-length, run_back_start}
use Rattle.repair_grammar.proofs.FrontierLemmas.{stands-neighbours, frontier-moves, frontier-join, stands-joined, counts-joined}
use Rattle.repair_grammar.specs.declared.symbol_row.TheConstants.{END, GAP}

-- a pair that stands, stands inside, and its left symbol is there
head_of : List ℕ → ℕ → ℕ
head_of [] none = none
head_of (x ∷ xs) none = x

pub stands-within : (symbols : List ℕ) (pair : ℕ × ℕ) (k : ℕ) → stands_at symbols pair k ≡ true →
    (k < length symbols) × (at symbols k ≡ pair.0)
unfolding stands_at head_of
stands-within symbols pair k stands = grind (arith, nat_tests, get_or_past, stands_first-whole, live-here)

pub stands-inside : (symbols : List ℕ) (pair : ℕ × ℕ) (k : ℕ) → HasEnds symbols → pair.0 < END →
    stands_at symbols pair k ≡ true → k + 1 < length symbols
stands-inside symbols pair k ends plain stands = let is = stands-within symbols pair k stands in
    not_last symbols k ends is.0 (omega (arith, is.1, plain))

-- a pair that stands, counts
replacement_count-later : (pair : ℕ × ℕ) (xs ys : List ℕ) → replacement_count pair ys ≤ replacement_count pair (xs ++ ys)
replacement_count-later pair [] ys = omega arith
replacement_count-later pair (x ∷ xs) ys = omega (arith, replacement_count-later pair xs ys, (replacement_count-step pair x (xs ++ ys)).0)

stands_first-counts : (pair : ℕ × ℕ) (block : List ℕ) → stands_first pair block ≡ true → 0 < replacement_count pair block
unfolding replacement_count stands_first
stands_first-counts pair [] stands = absurd (cc)
stands_first-counts pair (x ∷ []) stands = absurd (cc)
stands_first-counts pair (x ∷ y ∷ block) stands = rw stands (omega arith)

pub stands-counts : (symbols : List ℕ) (pair : ℕ × ℕ) (k : ℕ) → stands_at symbols pair k ≡ true →
    0 < replacement_count pair (live symbols)
unfolding stands_at
stands-counts symbols pair k stands =
    let parts = and_parts (not (at symbols k == GAP)) (stands_first pair (live (drop k symbols))) stands in
    omega (
      arith,
      stands_first-counts pair (live (drop k symbols)) parts.1,
      replacement_count-later pair (live (take k symbols)) (live (drop k symbols)),
      ap (replacement_count pair) (live-cut symbols k),
    )

module _ (symbols : List ℕ) (p m r c l : ℕ) (near : AreNeighbours symbols p m) (next_near : AreNeighbours symbols m r)
    (left_near : AreNeighbours symbols l p) (fits : c < END)
    (a_plain : at symbols p < END) (b_plain : at symbols m < END) (ends : HasEnds symbols) where
  pub c_fits : c < GAP
  c_fits = omega (arith, fits)

  abbrev then : List ℕ
  then = after symbols p m r c near next_near c_fits

  -- the marks stay
  pub ends-joined : HasEnds then
  ends-joined = grind (arith, nat_tests, after-length, c_fits, after-other, not_first)

  -- counts and places after the join
  module _ (next previous : List ℕ) (threads : AreThreads symbols next previous)
      (begins : (at symbols p == at symbols m) ≡ true → (at symbols l == at symbols p) ≡ false)
      (new_a : (c == at symbols p) ≡ false) (new_b : (c == at symbols m) ≡ false)
      (new_r : (c == at symbols r) ≡ false)
      (count count_after : ℕ × ℕ → ℕ) (places places_after : ℕ × ℕ → List ℕ) where
    pub counted-joined : IsCounted symbols count places →
        ((other : ℕ × ℕ) → IsUnmarked other → count_after other
        + times_of (left_gone (live (take l symbols)) (at symbols l) (at symbols p) (at symbols m)) other
        + times_of (Some (at symbols p, at symbols m)) other
        + times_of (right_gone (at symbols p) (at symbols m) (at symbols r) (live (drop (r + 1) symbols))) other
        ≡ count other + times_of (left_come (live (take l symbols)) (at symbols l) c) other
        + times_of (Some (c, at symbols r)) other) →
        ((other : ℕ × ℕ) → 0 < count_after other → IsUnmarked other) →
        ((other : ℕ × ℕ) (k : ℕ) → 0 < count_after other → Contains (places other) k → Contains
        (places_after other) k) →
        (at symbols r < END → 0 < count_after (c, at symbols r) → Contains (places_after (c, at symbols r)) p) →
        (at symbols l < END → 0 < count_after (at symbols l, c) → Contains (places_after (at symbols l, c)) l) →
        IsCounted then count_after places_after
    counted-joined counted changes plain_after keeps right left = record {
      counts = counts_then;
      plain = plain_after;
      noted = λ other k plain stands.
          let some : 0 < count_after other =
          omega (arith, counts_then other plain, stands-counts then other k stands) in
          elim (stands-joined symbols p m r c near next_near c_fits next previous other k l
          threads left_near (rw (after-length symbols p m r c near next_near c_fits) at
          (stands-inside then other k ends-joined plain.0 stands)) stands) [
            | inl before ↦ keeps other k some (counted.noted other k plain before)
            | inr new ↦ elim new [
              | inl here ↦ let same : (c, at symbols r) ≡ other = whole_pair other c (at symbols r) here.1 in
                  let fits_r : at symbols r < END =
                  omega (arith, right_of_pair other c (at symbols r) here.1, plain.1) in
                  rw (here.0, sym same) (right fits_r (rw (sym same) at some))
              | inr there ↦ let same : (at symbols l, c) ≡ other = whole_pair other (at symbols l) c there.1 in
                  let fits_l : at symbols l < END =
                  omega (arith, left_of_pair other (at symbols l) c there.1, plain.0) in
                  rw (there.0, sym same) (left fits_l (rw (sym same) at some))
            ]
          ];
    }
      where
        counts_then : (other : ℕ × ℕ) → IsUnmarked other → count_after other ≡ replacement_count other (live then)
        counts_then other plain = omega (
          arith,
          changes other plain,
          counted.counts other plain,
          counts-joined symbols p m r c near next_near c_fits l left_near other begins new_a new_b new_r,
        )

    -- the pass goes on
    pub passing-join : (first : List ℕ) (pair : ℕ × ℕ) (rest : List ℕ) (q : ℕ) →
        IsPassing first symbols pair c (p ∷ rest) q → ((k : ℕ) → Contains rest k → p ≤ k) →
        is_pair pair (at symbols p) (at symbols m) ≡ true → IsPassing first then pair c rest (p + 1)
    passing-join first pair rest q passing order is = record {
      inside = rw (after-length symbols p m r c near next_near c_fits) (omega (arith, near.before, near.within));
      done = frontier-join symbols p m r c near next_near c_fits pair is ∙ up_to ∙ passing.done;
      ahead = λ k stands. elim (stands-joined symbols p m r c near next_near c_fits next previous pair k l
          threads left_near (rw (after-length symbols p m r c near next_near c_fits) at
          (stands-inside then pair k ends-joined (omega (arith, a_plain, a_is)) stands)) stands) [
            | inl before ↦ elim (member_cases k p rest (passing.ahead k before).1) [
              | inl same ↦ absurd (eqb-false c (at symbols p) new_a
                  (sym (after-place symbols p m r c near next_near c_fits)
                  ∙ ap (at then) same ∙ (stands-within then pair k stands).1 ∙ sym a_is))
              | inr later ↦ (not_here k stands (order k later), later)
            ]
            | inr new ↦ elim new [
              | inl here ↦ absurd (eqb-false c (at symbols p) new_a
                  (left_of_pair pair c (at symbols r) here.1 ∙ sym a_is))
              | inr there ↦ absurd (eqb-false c (at symbols m) new_b
                  (right_of_pair pair (at symbols l) c there.1 ∙ sym b_is))
            ]
          ];
      new = λ k from. elim (same_or k m) [
        | inl same ↦ rw (same, after-gone symbols p m r c near next_near c_fits)
            (ne_eqb c GAP (λ e. omega (arith, e, fits)))
        | inr not_m ↦ rw (after-other symbols p m r c near next_near c_fits k (λ same. omega (arith, same, from)) not_m)
            (passing.new k (omega (arith, from, stood.0)))
      ];
    }
      where
        a_is : at symbols p ≡ pair.0
        a_is = left_of_pair pair (at symbols p) (at symbols m) is

        b_is : at symbols m ≡ pair.1
        b_is = right_of_pair pair (at symbols p) (at symbols m) is

        stood : (q ≤ p) × Contains (p ∷ rest) p
        stood = passing.ahead p (stands-neighbours symbols pair p m near ∙ is)

        before : (k : ℕ) → q ≤ k → k < p → stands_at symbols pair k ≡ false
        before k from to = elim (cases_Bool (stands_at symbols pair k)) [
          | inl stands ↦ elim (member_cases k p rest (passing.ahead k stands).1) [
            | inl same ↦ absurd (omega (arith, same, to))
            | inr later ↦ absurd (omega (arith, order k later, to))
          ]
          | inr none ↦ none
        ]

        up_to : passed_from symbols pair c p ≡ passed_from symbols pair c q
        up_to = let distance : q + (p - q) ≡ p = omega (arith, stood.0) in
            ap (passed_from symbols pair c) (sym distance)
            ∙ frontier-moves symbols pair c (p - q) q (omega (arith, distance, near.before, near.within))
            (λ k from to. before k from (omega (arith, to, distance)))

        not_here : (k : ℕ) → stands_at then pair k ≡ true → p ≤ k → p + 1 ≤ k
        not_here k stands from = elim (same_or k p) [
          | inl same ↦ absurd (eqb-false c (at symbols p) new_a
              (sym (after-place symbols p m r c near next_near c_fits)
              ∙ ap (at then) (sym same) ∙ (stands-within then pair k stands).1 ∙ sym a_is))
          | inr other ↦ elim (cases_lt p k) [
            | inl more ↦ omega (arith, more)
            | inr same ↦ absurd (other (omega (arith, from, same)))
          ]
        ]

-- a place at which the pair does not stand
pub passing-skip : (first symbols : List ℕ) (pair : ℕ × ℕ) (c p : ℕ) (rest : List ℕ) (q : ℕ) →
    IsPassing first symbols pair c (p ∷ rest) q → stands_at symbols pair p ≡ false →
    IsPassing first symbols pair c rest q
passing-skip first symbols pair c p rest q passing none = grind (arith, nat_tests, member_cases)

-- no place is left
pub passing-end : (first symbols : List ℕ) (pair : ℕ × ℕ) (c q : ℕ) → IsPassing first symbols pair c [] q →
    live symbols ≡ block_after_pass pair c (live first)
passing-end first symbols pair c q passing =
    let distance : q + (length symbols - q) ≡ length symbols = omega (arith, passing.inside) in
    sym (append-nil (live symbols))
    ∙ ap (λ rest. live symbols ++ rest) (sym (block_after_pass-none pair c))
    ∙ ap (λ rest. live symbols ++ block_after_pass pair c rest) (sym (live-nothing symbols))
    ∙ ap (λ front. live front ++ block_after_pass pair c (live (drop (length symbols) symbols)))
    (sym (take_all (length symbols) symbols (omega arith)))
    ∙ ap (passed_from symbols pair c) (sym distance)
    ∙ frontier-moves symbols pair c (length symbols - q) q (omega (arith, distance))
    (λ k from to. elim (cases_Bool (stands_at symbols pair k)) [
      | inl stands ↦ no_member k (passing.ahead k stands).1
      | inr none ↦ none
    ])
    ∙ passing.done
  where
    live-nothing : (symbols : List ℕ) → live (drop (length symbols) symbols) ≡ []
    live-nothing symbols = ap live (drop_all (length symbols) symbols (omega arith)) ∙ live-none

-- where the pair stands at the next place, no pair of the same symbols stands right before it
pub passing-begins : (first symbols : List ℕ) (pair : ℕ × ℕ) (c p : ℕ) (rest : List ℕ) (q l : ℕ) →
    IsPassing first symbols pair c (p ∷ rest) q → ((k : ℕ) → Contains rest k → p ≤ k) → AreNeighbours symbols l p →
    at symbols p ≡ pair.0 → (pair.0 == pair.1) ≡ true → (at symbols l == pair.0) ≡ false
passing-begins first symbols pair c p rest q l passing order near is same =
    elim (cases_Bool (at symbols l == pair.0)) [
      | inl alike ↦
          let right : (at symbols p == pair.1) ≡ true =
          eq-eqb (at symbols p) pair.1 (is ∙ eqb-true pair.0 pair.1 same) in
          let stands : stands_at symbols pair l ≡ true =
          stands-neighbours symbols pair l p near ∙ rw (alike, right) refl in
          elim (member_cases l p rest (passing.ahead l stands).1) [
            | inl here ↦ absurd (omega (arith, here, near.before))
            | inr later ↦ absurd (omega (arith, order l later, near.before))
          ]
      | inr apart ↦ apart
    ]

-- the places that are left are no smaller
pub order_left : (places : List ℕ) (i : ℕ) → IsNonDecreasing places → i < length places → (k : ℕ) →
    Contains (drop (i + 1) places) k → get_or places i 0 ≤ k
order_left places i order within k inside =
    let below : inside.0 < length (drop (i + 1) places) = inside.1 in
    let long : i + 1 + inside.0 < length places = omega (arith, below, length-drop (i + 1) places) in
    let at_k : get_or places (i + 1 + inside.0) k ≡ k = sym (get_or-drop (i + 1) places inside.0 k) ∙ inside.2 in
    let least : get_or places i k ≤ get_or places (i + 1 + inside.0) k =
    order i (i + 1 + inside.0) k (omega arith) long in
    omega (arith, least, at_k, get_or_default places i 0 k within)

-- before the first place
pub passing-start : (first : List ℕ) (pair : ℕ × ℕ) (c : ℕ) (places : List ℕ) →
    ((k : ℕ) → (c == at first k) ≡ false) → ((k : ℕ) → stands_at first pair k ≡ true → Contains places k) →
    IsPassing first first pair c places 0
passing-start first pair c places new noted = grind (arith, nat_tests, live-none)

-- the pair stands where its symbols do
pub stands-here : (symbols next previous : List ℕ) (pair : ℕ × ℕ) (p : ℕ) → AreThreads symbols next previous →
    p + 1 < length symbols → at symbols p < GAP →
    stands_at symbols pair p ≡ is_pair pair (at symbols p) (at symbols (get_or next p 0))
stands-here symbols next previous pair p threads inside stands =
    stands-neighbours symbols pair p (get_or next p 0) (threads.on p inside stands)

-- where its left symbol does not stand, the pair does not
pub stands-not : (symbols : List ℕ) (pair : ℕ × ℕ) (k : ℕ) → (k < length symbols → at symbols k ≢ pair.0) →
    stands_at symbols pair k ≡ false
stands-not symbols pair k none = grind (arith, nat_tests, stands-within)

-- the run of the new symbol before the next place ends at the last place at which a pair was replaced
pub run-before : (first symbols : List ℕ) (pair : ℕ × ℕ) (c p l : ℕ) (places : List ℕ) (q : ℕ) (odd : Bool) →
    IsPassing first symbols pair c (p ∷ places) q → stands_at symbols pair p ≡ true → AreNeighbours symbols l p →
    c < GAP → IsRun symbols c q odd → (at symbols l == c) ≡ true → odd ≡ ends_odd c false (live (take p symbols))
run-before first symbols pair c p l places q odd passing stands near fits run is = elim (cases_lt l q) [
  | inr past ↦ absurd (eqb-false c (at symbols l) (passing.new l (omega (arith, past)))
      (sym (eqb-true (at symbols l) c is)))
  | inl before ↦
      let last : (q - 1) + 1 ≡ q = omega (arith, before) in
      let here : at symbols (q - 1) ≡ c = run.last (q - 1) last in
      let upto : q ≤ p = (passing.ahead p stands).0 in
      let same : q ≡ l + 1 = elim (cases_lt l (q - 1)) [
        | inl less ↦ absurd (omega (arith, near.gaps (q - 1) less (omega (arith, last, upto)), here, fits))
        | inr none ↦ omega (arith, none, before, last)
      ] in
      run.parity (q - 1) last ∙ ap (λ place. ends_odd c false (live (take place symbols))) same
      ∙ sym (run_back_start symbols c l p near)
]

-- no place was passed yet
pub run-start : (symbols : List ℕ) (c : ℕ) (odd : Bool) → IsRun symbols c 0 odd
run-start symbols c odd = grind (arith, nat_tests)

-- after a join
pub run-joined : (symbols : List ℕ) (c p : ℕ) (odd : Bool) → at symbols p ≡ c →
    odd ≡ ends_odd c false (live (take (p + 1) symbols)) → IsRun symbols c (p + 1) odd
run-joined symbols c p odd here parity = grind (arith, nat_tests)
