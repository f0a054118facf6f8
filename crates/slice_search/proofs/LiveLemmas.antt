-- The list of the searches that go on: those that are over are taken out, and the others stay.
use Rattle.std.proofs.Common.{◌≡◌, ◌≢◌, ◌⊎◌, ℕ, zero, suc, ◌+◌, ◌<◌, ◌≤◌, List, [], ◌∷◌, length, get_or, set, refl, ap, sym, subst, ◌∙◌, arith, inl, inr}
use Rattle.std.specs.Prelude.{slice_index}
use Rattle.std.specs.List.{range_with_len, sum_by}
use Rattle.std.proofs.lemmas.Bool.{cases_eq, cases_lt}
use Rattle.std.proofs.lemmas.Grind.{get_or-set_at}
use Rattle.std.proofs.lemmas.List.{get_or-set_other, length-set}
use Rattle.std.proofs.lemmas.List.FromFn.{get_or-range_with_len}
use Rattle.std.proofs.lemmas.List.Sums.{sum_by-cons}
use Rattle.slice_search.specs.Live.{AreLive, blank, first_of}
use Rattle.slice_search.specs.Seekers.{rest_in, turning_in}
use Rattle.slice_search.specs.declared.seekers.Seeker.{Seeker}

-- at first all of them are listed
pub live-all : (seekers : List Seeker) → length seekers ≤ 16 → AreLive (range_with_len 0 16) (length seekers) seekers
live-all seekers few = record {
  below = λ k within. omega (arith, get_or-range_with_len 0 16 k 0 (omega (arith, within, few)), within);
  all = λ i d within rests. record {
    at = i;
    within = within;
    is = omega (arith, get_or-range_with_len 0 16 i 0 (omega (arith, within, few)));
  };
}

-- where each is over, none is left
pub rests-none : (seekers : List Seeker) →
    ((i : ℕ) (d : Seeker) → i < length seekers → rest_in (get_or seekers i d) ≡ 0) → sum_by rest_in seekers ≡ 0
rests-none [] each = refl
rests-none (seeker ∷ seekers) each =
    let own = each 0 seeker (omega arith) in
    let rest = rests-none seekers (λ i d within. each (suc i) d (omega (arith, within))) in
    omega (arith, own, rest, sum_by-cons rest_in seeker seekers)

-- where none is listed, none is left
pub live-none : (live : List ℕ) (count : ℕ) (seekers : List Seeker) → AreLive live count seekers → count ≡ 0 →
    sum_by rest_in seekers ≡ 0
live-none live count seekers are none = rests-none seekers (λ i d within. elim (cases_lt 0 (rest_in (get_or seekers i d))) [
  | inl rests ↦ let its = are.all i d within rests in absurd (omega (arith, its.within, none))
  | inr over ↦ omega (arith, over)
])

-- what the first is, when the search at one place is another
pub first-set : (P : Seeker → Type 0) (live : List ℕ) (seekers : List Seeker) (own : ℕ) (next : Seeker) →
    own < length seekers → (slice_index live 0 ≡ own → P next) → (slice_index live 0 ≢ own → P (first_of live seekers)) →
    P (first_of live (set seekers own next))
first-set P live seekers own next within here there = elim (cases_eq (slice_index live 0) own) [
  | inl same ↦ subst P (sym (get_or-set_at seekers own (slice_index live 0) next blank same within)) (here same)
  | inr other ↦ subst P (sym (get_or-set_other seekers own (slice_index live 0) next blank other)) (there other)
]

-- a place of the list that is not its first's comes later
pub later-place : (live : List ℕ) (k : ℕ) → slice_index live 0 ≢ slice_index live k → 0 < k
later-place live zero other = absurd (other refl)
later-place live (suc k) other = omega arith

-- a search of the list goes on, and the list stays
pub live-set : (live : List ℕ) (count k : ℕ) (seekers : List Seeker) (next : Seeker) → AreLive live count seekers →
    k < count → AreLive live count (set seekers (slice_index live k) next)
live-set live count k seekers next are listed =
    let own = slice_index live k in
    let long = length-set seekers own next in
    record {
      below = λ p within. omega (arith, are.below p within, long);
      all = λ i d within rests. elim (cases_eq i own) [
        | inl same ↦ record { at = k; within = listed; is = sym same }
        | inr other ↦ are.all i d (omega (arith, within, long))
            (subst (λ s. 0 < rest_in s) (get_or-set_other seekers own i next d other) rests)
      ];
    }

-- a place stands among those that are left, or among those that come next
pub record IsKept (live : List ℕ) (left next count i : ℕ) : Type 0 where
  pub at : ℕ
  pub within : at < count
  pub kept : (at < left) ⊎ (next ≤ at)
  pub is : slice_index live at ≡ i

-- the searches before a place of the list went on, and those of them that are not over stand at its front
pub record AreSifted (live : List ℕ) (left next count : ℕ) (seekers : List Seeker) : Type 0 where
  pub below : (k : ℕ) → k < count → slice_index live k < length seekers
  pub all : (i : ℕ) (d : Seeker) → i < length seekers → 0 < rest_in (get_or seekers i d) → IsKept live left next count i

pub sifted-first : (live : List ℕ) (count : ℕ) (seekers : List Seeker) → AreLive live count seekers →
    AreSifted live 0 0 count seekers
sifted-first live count seekers are = record {
  below = are.below;
  all = λ i d within rests. (
      let its = are.all i d within rests in
      record { at = its.at; within = its.within; kept = inr (omega arith); is = its.is });
}

pub sifted-last : (live : List ℕ) (left next count : ℕ) (seekers : List Seeker) → AreSifted live left next count seekers →
    left ≤ count → count ≤ next → AreLive live left seekers
sifted-last live left next count seekers are few ended = record {
  below = λ k within. are.below k (omega (arith, within, few));
  all = λ i d within rests. (
      let its = are.all i d within rests in
      record {
        at = its.at;
        within = elim its.kept [
          | inl before ↦ before
          | inr behind ↦ absurd (omega (arith, behind, its.within, ended))
        ];
        is = its.is;
      });
}

module _ (live : List ℕ) (left k count : ℕ) (seekers : List Seeker) (next : Seeker) (ordered : left ≤ k) (listed : k < count)
    (long : count ≤ length live) where
  abbrev own : ℕ
  own = slice_index live k

  abbrev moved : List ℕ
  moved = set live left own

  at-left : slice_index moved left ≡ own
  at-left = get_or-set_at live left left own 0 refl (omega (arith, ordered, listed, long))

  -- the next search goes on
  pub sifted-next : (after : ℕ) → AreSifted live left k count seekers → after ≡ left + rest_in next →
      AreSifted moved after (k + 1) count (set seekers own next)
  sifted-next after are more =
      let size = length-set seekers own next in
      let inside : own < length seekers = are.below k listed in
      record {
        below = λ p within. elim (cases_eq p left) [
          | inl same ↦ omega (arith, get_or-set_at live left p own 0 same (omega (arith, ordered, listed, long)), inside, size)
          | inr other ↦ omega (arith, get_or-set_other live left p own 0 other, are.below p within, size)
        ];
        all = λ i d within rests. elim (cases_eq i own) [
          | inl same ↦
              let rest : 0 < rest_in next = subst (λ s. 0 < rest_in s) (get_or-set_at seekers own i next d same inside) rests in
              record {
                at = left;
                within = omega (arith, ordered, listed);
                kept = inl (omega (arith, more, rest));
                is = at-left ∙ sym same;
              }
          | inr other ↦
              let its = are.all i d (omega (arith, within, size))
              (subst (λ s. 0 < rest_in s) (get_or-set_other seekers own i next d other) rests) in
              elim its.kept [
                | inl before ↦ record {
                  at = its.at;
                  within = its.within;
                  kept = inl (omega (arith, before, more));
                  is = get_or-set_other live left its.at own 0 (λ same. omega (arith, same, before)) ∙ its.is;
                }
                | inr behind ↦ elim (cases_eq its.at k) [
                  | inl here ↦ absurd (other (sym its.is ∙ ap (slice_index live) here))
                  | inr apart ↦
                      let later : k + 1 ≤ its.at = omega (arith, behind, apart) in
                      record {
                        at = its.at;
                        within = its.within;
                        kept = inr later;
                        is = get_or-set_other live left its.at own 0 (λ same. omega (arith, same, later, ordered)) ∙ its.is;
                      }
                ]
              ]
        ];
      }

  -- where no search was taken out, the first is to open a rule
  pub sifted-lead : (after : ℕ) → own < length seekers → after ≡ left + rest_in next → rest_in next ≤ 1 →
      turning_in next ≡ rest_in next → (0 < k → left + 1 ≤ k + turning_in (first_of live seekers)) →
      after + 1 ≤ (k + 1) + turning_in (first_of moved (set seekers own next))
  sifted-lead after inside more one turns before =
      first-set (λ s. after + 1 ≤ (k + 1) + turning_in s) moved seekers own next inside
      (λ same. omega (arith, more, turns, ordered))
      (λ other. elim (cases_eq 0 left) [
        | inl none ↦ absurd (other (ap (slice_index moved) none ∙ at-left))
        | inr some ↦
            let kept : slice_index moved 0 ≡ slice_index live 0 = get_or-set_other live left 0 own 0 some in
            let same : turning_in (first_of moved seekers) ≡ turning_in (first_of live seekers) =
            ap (λ p. turning_in (get_or seekers p blank)) kept in
            let least = before (omega (arith, some, ordered)) in
            omega (arith, same, least, more, one)
      ])
