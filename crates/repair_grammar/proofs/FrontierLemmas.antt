-- A pass along the threads: what is done up to a place, and where a pair stands after a join.
use Rattle.std.proofs.Common.{◌≡◌, ◌≢◌, ◌⊎◌, ℕ, zero, suc, ◌+◌, ◌<◌, ◌≤◌, ◌==◌, true, false, Some, List, [], ◌∷◌, ◌++◌, length, get_or, take, drop, refl, sym, ◌∙◌, ap, arith, inl, inr, append_assoc}
use Rattle.std.proofs.lemmas.Bool.{cases_lt, and_parts, not-true, eqb-false, ne_eqb}
use Rattle.std.proofs.lemmas.Bool.Decides.{nat_tests}
use Rattle.repair_grammar.specs.RePair.{is_pair, replacement_count, block_after_pass}
use Rattle.repair_grammar.specs.Counts.{stands_first}
use Rattle.repair_grammar.specs.Kept.{times_of}
use Rattle.repair_grammar.specs.Runs.{left_gone, right_gone, left_come}
use Rattle.repair_grammar.specs.Threads.{at, live, stands_at, passed_from, AreNeighbours, AreThreads}
use Rattle.repair_grammar.proofs.PassLemmas.{block_after_pass-passed}
use Rattle.repair_grammar.proofs.ThreadLemmas.{same_or, same_left, live-here, live-last_here, live-stands, live-gap, live-last_gap, live-neighbours, live-before, after, after-place, after-gone, after-other, kept, joined, rest-live, upto-live, was-live, is-live}
use Rattle.repair_grammar.proofs.RunLemmas.{changed}
use Rattle.repair_grammar.specs.declared.symbol_row.TheConstants.{GAP}

pub stands_first-two : (pair : ℕ × ℕ) (x y : ℕ) (rest : List ℕ) → stands_first pair (x ∷ y ∷ rest) ≡ is_pair pair x y
unfolding stands_first
stands_first-two pair x y rest = refl

replaced_two : (pair : ℕ × ℕ) (c x y : ℕ) (rest : List ℕ) → is_pair pair x y ≡ true →
    block_after_pass pair c (x ∷ y ∷ rest) ≡ c ∷ block_after_pass pair c rest
unfolding block_after_pass
replaced_two pair c x y rest is = rw is refl

-- a pair stands where it does at two neighbours
pub stands-neighbours : (symbols : List ℕ) (pair : ℕ × ℕ) (p q : ℕ) → AreNeighbours symbols p q →
    stands_at symbols pair p ≡ is_pair pair (at symbols p) (at symbols q)
unfolding stands_at
stands-neighbours symbols pair p q near =
    rw (ne_eqb (at symbols p) GAP (λ same. omega (arith, same, near.left_stands)))
    (ap (stands_first pair) (live-neighbours symbols p q near
    ∙ ap (λ rest. at symbols p ∷ rest) (live-stands symbols q near.within near.right_stands))
    ∙ stands_first-two pair (at symbols p) (at symbols q) (live (drop (q + 1) symbols)))

-- a symbol at which the pair does not stand is passed
pub frontier-step : (symbols : List ℕ) (pair : ℕ × ℕ) (c k : ℕ) → k < length symbols →
    stands_at symbols pair k ≡ false → passed_from symbols pair c (k + 1) ≡ passed_from symbols pair c k
unfolding stands_at
frontier-step symbols pair c k within none =
    grind (arith, nat_tests, live-last_gap, live-gap, live-here, live-last_here, append_assoc, block_after_pass-passed)

pub frontier-moves : (symbols : List ℕ) (pair : ℕ × ℕ) (c n k : ℕ) → k + n ≤ length symbols →
    ((j : ℕ) → k ≤ j → j < k + n → stands_at symbols pair j ≡ false) →
    passed_from symbols pair c (k + n) ≡ passed_from symbols pair c k
frontier-moves symbols pair c zero k within none = ap (passed_from symbols pair c) (omega arith)
frontier-moves symbols pair c (suc n) k within none =
    ap (passed_from symbols pair c) (omega arith)
    ∙ frontier-moves symbols pair c n (k + 1) (omega arith) (λ j from to. none j (omega arith) (omega arith))
    ∙ frontier-step symbols pair c k (omega arith) (none k (omega arith) (omega arith))

module _ (symbols : List ℕ) (p m r c : ℕ) (near : AreNeighbours symbols p m) (next_near : AreNeighbours symbols m r)
    (fits : c < GAP) where
  abbrev then : List ℕ
  then = after symbols p m r c near next_near fits

  -- a pair that stands is replaced
  pub frontier-join : (pair : ℕ × ℕ) → is_pair pair (at symbols p) (at symbols m) ≡ true →
      passed_from then pair c (p + 1) ≡ passed_from symbols pair c p
  frontier-join pair is =
      ap (λ front. front ++ block_after_pass pair c (live (drop (p + 1) then))) (upto-live symbols p m r c near next_near fits)
      ∙ append_assoc (live (take p symbols)) (c ∷ []) (block_after_pass pair c (live (drop (p + 1) then)))
      ∙ ap (λ rest. live (take p symbols) ++ c ∷ block_after_pass pair c rest) (rest-live symbols p m r c near next_near fits)
      ∙ ap (λ rest. live (take p symbols) ++ rest)
      (sym (ap (block_after_pass pair c) (live-neighbours symbols p m near
      ∙ ap (λ rest. at symbols p ∷ rest) (live-stands symbols m near.within near.right_stands))
      ∙ replaced_two pair c (at symbols p) (at symbols m) (live (drop (m + 1) symbols)) is))

  -- where a pair stands after it
  pub stands-joined : (next previous : List ℕ) (other : ℕ × ℕ) (k l : ℕ) → AreThreads symbols next previous →
      AreNeighbours symbols l p → k + 1 < length symbols → stands_at then other k ≡ true →
      (stands_at symbols other k ≡ true)
      ⊎ (((k ≡ p) × (is_pair other c (at symbols r) ≡ true)) ⊎ ((k ≡ l) × (is_pair other (at symbols l) c ≡ true)))
  unfolding stands_at
  stands-joined next previous other k l threads left_near inside stands = elim (same_or k p) [
    | inl same ↦ inr (inl (same, at_new (rw same at stands)))
    | inr not_p ↦
        let not_m : k ≢ m = λ same. gone_not (rw same at stands) in
        let here : at then k ≡ at symbols k = after-other symbols p m r c near next_near fits k not_p not_m in
        let symbol : (at then k == GAP) ≡ false =
        not-true _ (and_parts _ _ stands).0 in
        let differs : at symbols k ≢ GAP = λ is. eqb-false (at then k) GAP symbol (here ∙ is) in
        let old : AreNeighbours symbols k (get_or next k 0) =
        threads.on k inside (fits_word (at symbols k) (threads.words k) differs) in
        by (get_or next k 0) old not_p not_m here
  ]
    where
      fits_word : (x : ℕ) → x < 4294967296 → x ≢ GAP → x < GAP
      fits_word x word differs = elim (cases_lt x GAP) [
        | inl less ↦ less
        | inr more ↦ absurd (differs (omega (arith, more, word)))
      ]

      gone_not : stands_at then other m ≡ true → ⊥
      gone_not stands_m = eqb-false (at then m) GAP (not-true _ (and_parts _ _ stands_m).0)
          (after-gone symbols p m r c near next_near fits)

      at_new : stands_at then other p ≡ true → is_pair other c (at symbols r) ≡ true
      at_new stands_p =
          let place : at then p ≡ c = after-place symbols p m r c near next_near fits in
          let right : at then r ≡ at symbols r = after-other symbols p m r c near next_near fits r
          (λ same. omega (arith, near.before, next_near.before, same))
          (λ same. omega (arith, next_near.before, same)) in
          ap (λ x. is_pair other c x) (sym right) ∙ ap (λ x. is_pair other x (at then r)) (sym place)
          ∙ sym (stands-neighbours then other p r (joined symbols p m r c near next_near fits)) ∙ stands_p

      by : (q : ℕ) → AreNeighbours symbols k q → k ≢ p → k ≢ m → at then k ≡ at symbols k →
          (stands_at symbols other k ≡ true)
          ⊎ (((k ≡ p) × (is_pair other c (at symbols r) ≡ true)) ⊎ ((k ≡ l) × (is_pair other (at symbols l) c ≡ true)))
      by q old not_p not_m here =
          let not_gone : q ≢ m = λ same. not_p (same_left symbols k p m (rw same at old) near) in
          let now : AreNeighbours then k q = kept symbols p m r c near next_near fits k q not_m not_gone old in
          let tests : is_pair other (at symbols k) (at then q) ≡ true =
          ap (λ x. is_pair other x (at then q)) (sym here) ∙ sym (stands-neighbours then other k q now) ∙ stands in
          elim (same_or q p) [
            | inl same ↦ let left_is : k ≡ l = same_left symbols k l p (rw same at old) left_near in
                let place : at then q ≡ c = ap (at then) same ∙ after-place symbols p m r c near next_near fits in
                inr (inr (
                  left_is,
                  ap (λ x. is_pair other (at symbols l) x) (sym place)
                      ∙ ap (λ x. is_pair other (at symbols x) (at then q)) (sym left_is) ∙ tests,
                ))
            | inr other_place ↦ inl (stands-neighbours symbols other k q old
                ∙ ap (λ x. is_pair other (at symbols k) x)
                (sym (after-other symbols p m r c near next_near fits q other_place not_gone)) ∙ tests)
          ]

  -- what counts after it
  module _ (l : ℕ) (left_near : AreNeighbours symbols l p) where
    abbrev rest : List ℕ
    rest = live (drop (r + 1) symbols)

    right_rest : live (drop (m + 1) symbols) ≡ at symbols r ∷ rest
    right_rest = tail_is (sym (live-stands symbols m (near.within) near.right_stands)
        ∙ live-neighbours symbols m r next_near
        ∙ ap (λ tail. at symbols m ∷ tail) (live-stands symbols r next_near.within next_near.right_stands))
      where
        tail_is : {x : ℕ} {xs ys : List ℕ} → ◌≡◌ {A = List ℕ} (x ∷ xs) (x ∷ ys) → xs ≡ ys
        tail_is same = ap (drop 1) same

    whole-was : live symbols ≡ live (take l symbols) ++ at symbols l ∷ at symbols p ∷ at symbols m ∷ at symbols r ∷ rest
    whole-was = was-live symbols p m r c near next_near fits
        ∙ ap (λ front. front ++ at symbols p ∷ at symbols m ∷ live (drop (m + 1) symbols))
        (live-before symbols l p left_near)
        ∙ append_assoc (live (take l symbols)) (at symbols l ∷ [])
        (at symbols p ∷ at symbols m ∷ live (drop (m + 1) symbols))
        ∙ ap (λ tail. live (take l symbols) ++ at symbols l ∷ at symbols p ∷ at symbols m ∷ tail) right_rest

    whole-is : live then ≡ live (take l symbols) ++ at symbols l ∷ c ∷ at symbols r ∷ rest
    whole-is = is-live symbols p m r c near next_near fits
        ∙ ap (λ front. front ++ c ∷ live (drop (m + 1) symbols)) (live-before symbols l p left_near)
        ∙ append_assoc (live (take l symbols)) (at symbols l ∷ []) (c ∷ live (drop (m + 1) symbols))
        ∙ ap (λ tail. live (take l symbols) ++ at symbols l ∷ c ∷ tail) right_rest

    pub counts-joined : (other : ℕ × ℕ) → ((at symbols p == at symbols m) ≡ true → (at symbols l == at symbols p)
        ≡ false) →
        (c == at symbols p) ≡ false → (c == at symbols m) ≡ false → (c == at symbols r) ≡ false →
        replacement_count other (live symbols) + times_of (left_come (live (take l symbols)) (at symbols l) c) other
        + times_of (Some (c, at symbols r)) other
        ≡ replacement_count other (live then)
        + times_of (left_gone (live (take l symbols)) (at symbols l) (at symbols p) (at symbols m)) other
        + times_of (Some (at symbols p, at symbols m)) other
        + times_of (right_gone (at symbols p) (at symbols m) (at symbols r) rest) other
    counts-joined other begins new_a new_b new_r = rw (whole-was, whole-is)
        (changed (live (take l symbols)) (at symbols l) (at symbols p) (at symbols m) c (at symbols r) rest
        begins new_a new_b new_r other)
