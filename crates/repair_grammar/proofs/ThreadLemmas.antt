-- Threads through a row of symbols: what is left, and one join.
use Rattle.std.proofs.Common.{◌≡◌, ◌≢◌, ◌⊎◌, ℕ, zero, suc, ◌+◌, ◌-◌, ◌<◌, ◌≤◌, ◌==◌, Bool, true, false, not, ◌&&◌, List, [], ◌∷◌, ◌++◌, length, get_or, take, drop, set, refl, sym, ◌∙◌, ap, arith, inl, inr, add-one}
use Rattle.std.proofs.lemmas.Bool.{cases_Bool, cases_lt, eqb-true, eqb-false, ne_eqb, eq-eqb}
use Rattle.std.proofs.lemmas.List.{length-set, get_or-set_same, get_or-set_other, take-append-drop, drop-set-lt, take-set-le, get_or_default, take_more, append-nil}
use Rattle.std.proofs.lemmas.List.Elements.{filter-append}
use Rattle.std.proofs.Math.Seq.{drop-cons}
use Rattle.std.proofs.lemmas.Bool.Decides.{nat_tests}
use Rattle.repair_grammar.specs.Runs.{begins_odd, ends_odd}
use Rattle.repair_grammar.specs.Threads.{at, live, turned_by, AreNeighbours, AreThreads, HasEnds, IsAround}
use Rattle.repair_grammar.proofs.RunLemmas.{begins_odd-front, ends_odd-last}
use Rattle.repair_grammar.specs.declared.symbol_row.TheConstants.{END, GAP}

-- cases of two places
pub same_or : (m n : ℕ) → (m ≡ n) ⊎ (m ≢ n)
same_or m n = elim (cases_Bool (m == n)) [ inl is ↦ inl (eqb-true m n is) | inr apart ↦ inr (eqb-false m n apart) ]

-- of an empty row nothing is left
pub live-none : live [] ≡ []
unfolding live
live-none = refl

pub live_first : (x : ℕ) (xs : List ℕ) → (x == GAP) ≡ false → live (x ∷ xs) ≡ x ∷ live xs
unfolding live
live_first x xs symbol = rw symbol refl

-- what is left of two rows
pub live-append : (xs ys : List ℕ) → live (xs ++ ys) ≡ live xs ++ live ys
unfolding live
live-append xs ys = filter-append (λ symbol. not (symbol == GAP)) xs ys

pub live-cut : (symbols : List ℕ) (p : ℕ) → live symbols ≡ live (take p symbols) ++ live (drop p symbols)
live-cut symbols p = ap live (sym (take-append-drop p symbols)) ∙ live-append (take p symbols) (drop p symbols)

-- a symbol that stands, and a gap
pub live-here : (symbols : List ℕ) (p : ℕ) → p < length symbols → (at symbols p == GAP) ≡ false →
    live (drop p symbols) ≡ at symbols p ∷ live (drop (p + 1) symbols)
unfolding live
live-here symbols p within symbol = rw (drop-cons symbols p GAP within, add-one, symbol) refl

pub live-stands : (symbols : List ℕ) (p : ℕ) → p < length symbols → at symbols p < GAP →
    live (drop p symbols) ≡ at symbols p ∷ live (drop (p + 1) symbols)
live-stands symbols p within stands =
    live-here symbols p within (ne_eqb (at symbols p) GAP (λ same. omega (arith, same, stands)))

pub live-gap : (symbols : List ℕ) (p : ℕ) → p < length symbols → at symbols p ≡ GAP →
    live (drop p symbols) ≡ live (drop (p + 1) symbols)
unfolding live
live-gap symbols p within is =
    rw (drop-cons symbols p GAP within, add-one, eq-eqb (get_or symbols p GAP) GAP is) refl

-- gaps in a row leave nothing
live-gaps : (symbols : List ℕ) (n p : ℕ) → p + n ≤ length symbols →
    ((k : ℕ) → p ≤ k → k < p + n → at symbols k ≡ GAP) → live (drop p symbols) ≡ live (drop (p + n) symbols)
live-gaps symbols zero p within gaps = ap (λ q. live (drop q symbols)) (omega arith)
live-gaps symbols (suc n) p within gaps =
    live-gap symbols p (omega arith) (gaps p (omega arith) (omega arith))
    ∙ live-gaps symbols n (p + 1) (omega arith) (λ k from to. gaps k (omega arith) (omega arith))
    ∙ ap (λ q. live (drop q symbols)) (omega arith)

-- neighbours stand side by side in what is left
pub live-neighbours : (symbols : List ℕ) (p q : ℕ) → AreNeighbours symbols p q →
    live (drop p symbols) ≡ at symbols p ∷ live (drop q symbols)
live-neighbours symbols p q near =
    let distance : p + 1 + (q - (p + 1)) ≡ q = omega (arith, near.before) in
    live-stands symbols p (omega (arith, near.before, near.within)) near.left_stands
    ∙ ap (λ rest. at symbols p ∷ rest) (live-gaps symbols (q - (p + 1)) (p + 1) (omega (arith, near.within, distance))
    (λ k from to. near.gaps k (omega arith) (omega (arith, distance)))
    ∙ ap (λ r. live (drop r symbols)) distance)

-- a place has one neighbour on each side
pub same_left : (symbols : List ℕ) (i j m : ℕ) → AreNeighbours symbols i m → AreNeighbours symbols j m → i ≡ j
same_left symbols i j m one other = grind (arith, nat_tests)

pub same_right : (symbols : List ℕ) (m i j : ℕ) → AreNeighbours symbols m i → AreNeighbours symbols m j → i ≡ j
same_right symbols m i j one other = grind (arith, nat_tests)

-- one place more on the left
pub live-last_here : (symbols : List ℕ) (p : ℕ) → p < length symbols → (at symbols p == GAP) ≡ false →
    live (take (p + 1) symbols) ≡ live (take p symbols) ++ at symbols p ∷ []
unfolding live
live-last_here symbols p within symbol = ap live (take_more symbols p GAP within)
    ∙ live-append (take p symbols) (at symbols p ∷ []) ∙ ap (λ xs. live (take p symbols) ++ xs) (rw symbol refl)

pub live-last : (symbols : List ℕ) (p : ℕ) → p < length symbols → at symbols p < GAP →
    live (take (p + 1) symbols) ≡ live (take p symbols) ++ at symbols p ∷ []
live-last symbols p within stands =
    live-last_here symbols p within (ne_eqb (at symbols p) GAP (λ same. omega (arith, same, stands)))

pub live-last_gap : (symbols : List ℕ) (p : ℕ) → p < length symbols → at symbols p ≡ GAP →
    live (take (p + 1) symbols) ≡ live (take p symbols)
unfolding live
live-last_gap symbols p within is = ap live (take_more symbols p GAP within)
    ∙ live-append (take p symbols) (at symbols p ∷ [])
    ∙ ap (λ xs. live (take p symbols) ++ xs) (rw (eq-eqb (at symbols p) GAP is) refl)
    ∙ append-nil (live (take p symbols))

live-last_gaps : (symbols : List ℕ) (n p : ℕ) → p + n ≤ length symbols →
    ((k : ℕ) → p ≤ k → k < p + n → at symbols k ≡ GAP) → live (take (p + n) symbols) ≡ live (take p symbols)
live-last_gaps symbols zero p within gaps = ap (λ q. live (take q symbols)) (omega arith)
live-last_gaps symbols (suc n) p within gaps = ap (λ q. live (take q symbols)) (omega arith)
    ∙ live-last_gap symbols (p + n) (omega arith) (gaps (p + n) (omega arith) (omega arith))
    ∙ live-last_gaps symbols n p (omega arith) (λ k from to. gaps k from (omega arith))

pub live-before : (symbols : List ℕ) (p q : ℕ) → AreNeighbours symbols p q →
    live (take q symbols) ≡ live (take p symbols) ++ at symbols p ∷ []
live-before symbols p q near =
    let distance : p + 1 + (q - (p + 1)) ≡ q = omega (arith, near.before) in
    ap (λ r. live (take r symbols)) (sym distance)
    ∙ live-last_gaps symbols (q - (p + 1)) (p + 1) (omega (arith, near.within, distance))
    (λ k from to. near.gaps k (omega arith) (omega (arith, distance)))
    ∙ live-last symbols p (omega (arith, near.before, near.within)) near.left_stands

module _ (symbols : List ℕ) (p m r c : ℕ) (near : AreNeighbours symbols p m) (next_near : AreNeighbours symbols m r)
    (fits : c < GAP) where
  abbrev pub after : List ℕ
  after = set (set symbols p c) m GAP

  pub after-place : at after p ≡ c
  after-place = get_or-set_other (set symbols p c) m p GAP GAP (λ same. omega (arith, near.before, same))
      ∙ get_or-set_same symbols p c GAP (omega (arith, near.before, near.within))

  pub after-gone : at after m ≡ GAP
  after-gone = get_or-set_same (set symbols p c) m GAP GAP
      (rw (length-set symbols p c) near.within)

  pub after-other : (k : ℕ) → k ≢ p → k ≢ m → at after k ≡ at symbols k
  after-other k not_p not_m = get_or-set_other (set symbols p c) m k GAP GAP not_m
      ∙ get_or-set_other symbols p k c GAP not_p

  pub after-length : length after ≡ length symbols
  after-length = length-set (set symbols p c) m GAP ∙ length-set symbols p c

  -- neighbours but for the place that goes
  pub kept : (i j : ℕ) → i ≢ m → j ≢ m → AreNeighbours symbols i j → AreNeighbours after i j
  kept i j not_i not_j are = grind (arith, nat_tests, after-length, same_or, after-place, after-other, after-gone)

  -- and the two around it
  pub joined : AreNeighbours after p r
  joined = grind (arith, nat_tests, after-length, after-place, after-other, same_or, after-gone)

  abbrev left_part : List ℕ
  left_part = live (take p symbols)

  -- what was left, and what is
  pub was-live : live symbols ≡ left_part ++ at symbols p ∷ at symbols m ∷ live (drop (m + 1) symbols)
  was-live = live-cut symbols p ∙ ap (λ rest. left_part ++ rest)
      (live-neighbours symbols p m near ∙ ap (λ rest. at symbols p ∷ rest)
      (live-stands symbols m near.within near.right_stands))

  before_it : take p after ≡ take p symbols
  before_it = take-set-le p (set symbols p c) m GAP (omega (arith, near.before)) ∙ take-set-le p symbols p c
      (omega arith)

  rest_it : drop (m + 1) after ≡ drop (m + 1) symbols
  rest_it = drop-set-lt (m + 1) (set symbols p c) m GAP (omega arith)
      ∙ drop-set-lt (m + 1) symbols p c (omega (arith, near.before))

  pub rest-live : live (drop (p + 1) after) ≡ live (drop (m + 1) symbols)
  rest-live = let distance : p + 1 + (m - p) ≡ m + 1 = omega (arith, near.before) in
      live-gaps after (m - p) (p + 1) (rw after-length (omega (arith, near.within, distance)))
      (λ k from to. elim (same_or k m) [
        | inl same ↦ rw same after-gone
        | inr not_m ↦ after-other k (λ same. omega (arith, from, same)) not_m
            ∙ near.gaps k (omega (arith, from)) (elim (cases_lt k m) [
              | inl less ↦ less
              | inr more ↦ absurd (not_m (omega (arith, more, to, distance)))
            ])
      ])
      ∙ ap (λ q. live (drop q after)) distance ∙ ap live rest_it

  pub from-live : live (drop p after) ≡ c ∷ live (drop (m + 1) symbols)
  from-live = live-stands after p (rw after-length (omega (arith, near.before, near.within)))
      (omega (arith, after-place))
      ∙ ap (λ symbol. symbol ∷ live (drop (p + 1) after)) after-place ∙ ap (λ rest. c ∷ rest) rest-live

  pub is-live : live after ≡ left_part ++ c ∷ live (drop (m + 1) symbols)
  is-live = live-cut after p ∙ ap (λ front. live front ++ live (drop p after)) before_it
      ∙ ap (λ rest. left_part ++ rest) from-live

  pub upto-live : live (take (p + 1) after) ≡ left_part ++ c ∷ []
  upto-live = live-last after p (rw after-length (omega (arith, near.before, near.within))) (omega (arith, after-place))
      ∙ ap (λ front. live front ++ at after p ∷ []) before_it ∙ ap (λ symbol. left_part ++ symbol ∷ []) after-place

  -- the threads after it
  module _ (next previous : List ℕ) (threads : AreThreads symbols next previous) (is_next : get_or next p 0 ≡ m)
      (is_right : get_or next m 0 ≡ r) (more : m + 1 < length symbols) where
    pub stood : (k : ℕ) → at after k < GAP → (k ≢ m) × (at symbols k < GAP)
    stood k stands = grind (arith, nat_tests, same_or, after-gone, after-other)

    pub threads-joined : AreThreads after (set next p r) (set previous r p)
    threads-joined = record {
      few = rw after-length threads.few;
      words = λ k. elim (same_or k m) [
        | inl same ↦ rw same (omega (arith, after-gone))
        | inr not_m ↦ elim (same_or k p) [
          | inl same ↦ rw same (omega (arith, after-place, fits))
          | inr not_p ↦ omega (arith, after-other k not_p not_m, threads.words k)
        ]
      ];
      nexts = rw (length-set next p r, after-length) threads.nexts;
      previouses = rw (length-set previous r p, after-length) threads.previouses;
      on = λ k inside stands. let was = stood k stands in elim (same_or k p) [
        | inl same ↦ rw (
          same,
          get_or-set_same next p r 0
              (rw threads.nexts (omega (arith, near.before, near.within))),
        ) joined
        | inr not_p ↦ let old : AreNeighbours symbols k (get_or next k 0) =
            threads.on k (rw (sym after-length) inside) was.1 in
            rw (get_or-set_other next p k r 0 not_p) (kept k (get_or next k 0) was.0
            (λ same. not_p (same_left symbols k p m (rw same at old) near)) old)
      ];
      back = λ k some inside stands. let was = stood k stands in elim (same_or k r) [
        | inl same ↦ rw (same, get_or-set_same previous r p 0 (rw threads.previouses next_near.within)) joined
        | inr not_r ↦ let old : AreNeighbours symbols (get_or previous k 0) k =
            threads.back k some (rw (sym after-length) inside) was.1 in
            rw (get_or-set_other previous r k p 0 not_r) (kept (get_or previous k 0) k
            (λ same. not_r (same_right symbols m k r (rw same at old) next_near)) was.0 old)
      ];
    }

-- runs along the threads
and_false : (a b : Bool) → a ≡ false → (a && b) ≡ false
and_false a b none = rw none refl

turned_not : (odd test : Bool) → turned_by odd (not test) ≡ turned_by (not odd) test
turned_not true true = refl
turned_not true false = refl
turned_not false test = refl

turned_false : (odd : Bool) → turned_by odd false ≡ odd
turned_false true = refl
turned_false false = refl

ends_odd-place : (symbols : List ℕ) (u p q : ℕ) → AreNeighbours symbols p q →
    ends_odd u false (live (take q symbols)) ≡ ((at symbols p == u) && not (ends_odd u false (live (take p symbols))))
ends_odd-place symbols u p q near = ap (ends_odd u false) (live-before symbols p q near)
    ∙ ends_odd-last u false (live (take p symbols)) (at symbols p)

ends_odd-at : (symbols : List ℕ) (u p : ℕ) → p < length symbols → at symbols p < GAP →
    ends_odd u false (live (take (p + 1) symbols))
    ≡ ((at symbols p == u) && not (ends_odd u false (live (take p symbols))))
ends_odd-at symbols u p within stands = ap (ends_odd u false) (live-last symbols p within stands)
    ∙ ends_odd-last u false (live (take p symbols)) (at symbols p)

begins_odd-at : (symbols : List ℕ) (u p q : ℕ) → AreNeighbours symbols p q →
    begins_odd u (live (drop p symbols)) ≡ ((at symbols p == u) && not (begins_odd u (live (drop q symbols))))
begins_odd-at symbols u p q near = ap (begins_odd u) (live-neighbours symbols p q near)
    ∙ begins_odd-front u (at symbols p) (live (drop q symbols))

-- one symbol further back
pub run_back : (symbols : List ℕ) (u p q : ℕ) (odd whole : Bool) → AreNeighbours symbols p q → at symbols q ≡ u →
    whole ≡ turned_by odd (ends_odd u false (live (take (q + 1) symbols))) →
    whole ≡ turned_by (not odd) (ends_odd u false (live (take (p + 1) symbols)))
run_back symbols u p q odd whole near is left = grind (arith, nat_tests, ends_odd-at, turned_not, ends_odd-place)

pub run_back_start : (symbols : List ℕ) (u p q : ℕ) → AreNeighbours symbols p q →
    ends_odd u false (live (take q symbols)) ≡ ends_odd u false (live (take (p + 1) symbols))
run_back_start symbols u p q near = ends_odd-place symbols u p q near
    ∙ sym (ends_odd-at symbols u p (omega (arith, near.before, near.within)) near.left_stands)

pub run_back_end : (symbols : List ℕ) (u p : ℕ) (odd whole : Bool) → p < length symbols → at symbols p < GAP →
    at symbols p ≢ u → whole ≡ turned_by odd (ends_odd u false (live (take (p + 1) symbols))) → odd ≡ whole
run_back_end symbols u p odd whole within stands other left = grind (arith, nat_tests, ends_odd-at, and_false, turned_false)

-- one symbol further on
pub run_on : (symbols : List ℕ) (u p q : ℕ) (odd whole : Bool) → AreNeighbours symbols p q → at symbols p ≡ u →
    whole ≡ turned_by odd (begins_odd u (live (drop p symbols))) →
    whole ≡ turned_by (not odd) (begins_odd u (live (drop q symbols)))
run_on symbols u p q odd whole near is left =
    left ∙ ap (turned_by odd) (begins_odd-at symbols u p q near ∙ rw (eq-eqb (at symbols p) u is) refl)
    ∙ turned_not odd (begins_odd u (live (drop q symbols)))

pub run_on_end : (symbols : List ℕ) (u p : ℕ) (odd whole : Bool) → p < length symbols → at symbols p < GAP →
    at symbols p ≢ u → whole ≡ turned_by odd (begins_odd u (live (drop p symbols))) → odd ≡ whole
run_on_end symbols u p odd whole within stands other left =
    grind (arith, nat_tests, live-stands, begins_odd-front, and_false, turned_false)

-- the neighbours that the code reads
pub neighbour_back : (symbols next previous : List ℕ) (p q : ℕ) → AreThreads symbols next previous → 0 < p →
    p < length symbols → at symbols p < GAP → q ≡ get_or previous p q → AreNeighbours symbols q p
neighbour_back symbols next previous p q threads some within stands is = grind (arith, nat_tests, get_or_default)

pub neighbour_on : (symbols next previous : List ℕ) (p q : ℕ) → AreThreads symbols next previous →
    p + 1 < length symbols → at symbols p < GAP → q ≡ get_or next p q → AreNeighbours symbols p q
neighbour_on symbols next previous p q threads inside stands is =
    let same : get_or next p 0 ≡ q = get_or_default next p 0 q (omega (arith, inside, threads.nexts)) ∙ sym is in
    rw same at (threads.on p inside stands)

-- a symbol stands at neither end
pub not_first : (symbols : List ℕ) (p : ℕ) → HasEnds symbols → at symbols p < END → 0 < p
not_first symbols p ends plain = grind (arith, nat_tests, same_or)

pub not_last : (symbols : List ℕ) (p : ℕ) → HasEnds symbols → p < length symbols → at symbols p < END →
    p + 1 < length symbols
not_last symbols p ends within plain = grind (arith, nat_tests, same_or)

-- the symbol that was read
pub read_is : (symbols : List ℕ) (p x : ℕ) → p < length symbols → x ≡ get_or symbols p x → at symbols p ≡ x
read_is symbols p x within is = get_or_default symbols p GAP x within ∙ sym is

pub threads_around : (symbols next previous : List ℕ) (p l m r c before beyond : ℕ) →
    AreThreads symbols next previous → IsAround symbols p l m r before beyond → c < GAP →
    AreThreads (set (set symbols p c) m GAP) (set next p r) (set previous r p)
threads_around symbols next previous p l m r c before beyond threads around fits =
    let near : AreNeighbours symbols p m = around.near in
    let right_near : AreNeighbours symbols m r = around.next_near in
    let next_is : get_or next p 0 ≡ m = same_right symbols p (get_or next p 0) m
    (threads.on p (omega (arith, near.before, near.within)) near.left_stands) near in
    let more : m + 1 < length symbols = omega (arith, right_near.before, right_near.within) in
    let right_is : get_or next m 0 ≡ r = same_right symbols m (get_or next m 0) r
    (threads.on m more near.right_stands) right_near in
    threads-joined symbols p m r c near right_near fits next previous threads next_is right_is more

pub gone_is : (symbols next previous : List ℕ) (p l m r before beyond : ℕ) → AreThreads symbols next previous →
    IsAround symbols p l m r before beyond → get_or next p 0 ≡ m
gone_is symbols next previous p l m r before beyond threads around = grind (arith, nat_tests, same_right)

pub left_is : (symbols next previous : List ℕ) (p l m r before beyond : ℕ) → AreThreads symbols next previous →
    IsAround symbols p l m r before beyond → get_or previous p 0 ≡ l
left_is symbols next previous p l m r before beyond threads around = grind (arith, nat_tests, same_left)
