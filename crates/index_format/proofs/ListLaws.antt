-- The lists of an index: each has its property, is spelled so, and is read again.
use Rattle.std.proofs.Common.{◌≡◌, ℕ, ◌-◌, ◌^◌, ◌<◌, true, false, eqb, List, [], ◌∷◌, ◌++◌, length, All, slice_index, Ok, Err, refl, ap, inl, inr, ◌∙◌, append_assoc, arith}
use Rattle.std.specs.Prelude.{IfOk}
use Rattle.std.specs.Int.{Width, w32}
use Rattle.std.specs.List.Sorted.{IsStrictlyIncreasing}
use Rattle.std.proofs.lemmas.Bool.{lt-ltb, cases_lt}
use Rattle.std.proofs.lemmas.Bool.Decides.{nat_tests}
use Rattle.std.proofs.lemmas.List.Elements.{All-nil}
use Rattle.list_laws.proofs.FrontLemmas.{All-front, All-last, All-snoc, IsStrictlyIncreasing-front, IsStrictlyIncreasing-last, IsStrictlyIncreasing-snoc}
use Rattle.track_types.specs.PartsForm.{AreShort, AreShortPairs}
use Rattle.track_types.specs.declared.flaw.Section.{Section}
use Rattle.track_types.specs.declared.flaw.Section.TheVariants.{Rules}
use Rattle.track_types.specs.declared.flaw.Kind.TheVariants.{Short}
use Rattle.index_format.specs.Spelling.{short_bytes, rule_bytes}
use Rattle.index_format.specs.Fields.{Taken, flaw_at, number_at, short_at, rises, rising_at, rule_at}
use Rattle.index_format.proofs.BitLemmas.{IsBytes}
use Rattle.index_format.proofs.Laws.{Takes, Takes-then, then_ok, test_ok, IsWide, wide32, number_at-takes, number_at-again, IsListed}

-- items of which each has a property, whatever stands before it
pub each_listed : {A : Type 0} (next : List A → List ℕ → Taken A) (spell : A → List ℕ) (P : A → Type 0)
    → ((seen : List A) (bytes : List ℕ) → IsBytes bytes → IfOk (next seen bytes) (λ item. Takes bytes (spell item.0) item.1 × P item.0))
    → ((seen : List A) (item : A) (rest : List ℕ) → P item → next seen (spell item ++ rest) ≡ Ok (item, rest)) → IsListed next spell (All P)
each_listed {A} next spell P takes again = record {
  none = All-nil P;
  front = λ xs ys all. All-front P xs ys all;
  takes = λ seen bytes all fits. more seen bytes all (next seen bytes) (takes seen bytes fits);
  again = λ seen item rest all. again seen item rest (All-last P seen item all);
}
  where
    more : (seen : List A) (bytes : List ℕ) → All P seen → (read : Taken A)
        → IfOk read (λ item. Takes bytes (spell item.0) item.1 × P item.0)
        → IfOk read (λ item. Takes bytes (spell item.0) item.1 × All P (seen ++ item.0 ∷ []))
    more seen bytes all (Ok item) taken = (taken.0, All-snoc P seen item.0 all taken.1)
    more seen bytes all (Err flaw) taken = tt

-- numbers of four bytes
pub shorts_listed : (section : Section) (period : ℕ) → IsListed (short_at section period) short_bytes AreShort
unfolding short_at
shorts_listed section period =
    each_listed (short_at section period) short_bytes (λ n. n < 2 ^ 32)
    (λ seen bytes fits. number_at-takes wide32 (flaw_at section period (length seen) Short) bytes fits)
    (λ seen n rest small. number_at-again wide32 (flaw_at section period (length seen) Short) n rest small)

-- a number rises if and only if it is greater than the last
rises-above : (seen : List ℕ) (n : ℕ) → rises seen n ≡ true → 0 < length seen → slice_index seen (length seen - 1) < n
rises-above seen n up some = grind (arith, nat_tests, up, some)

above-rises : (seen : List ℕ) (n : ℕ) → (0 < length seen → slice_index seen (length seen - 1) < n) → rises seen n ≡ true
above-rises seen n above = elim (cases_lt 0 (length seen)) [
  | inl some ↦
      let more : eqb (length seen) 0 ≡ false = grind (arith, nat_tests) in
      rw (more, lt-ltb (slice_index seen (length seen - 1)) n (above some)) refl
  | inr none ↦ let none : length seen ≡ 0 = omega arith in rw none refl
]

-- numbers that rise
pub rising_listed : {w : Width} {limit : ℕ} {spell : ℕ → List ℕ} (wide : IsWide w limit spell) (section : Section)
    → IsListed (rising_at w section) spell (λ xs. IsStrictlyIncreasing xs × All (λ n. n < limit) xs)
unfolding rising_at
rising_listed {w} {limit} {spell} wide section = record {
  none = (λ k within. absurd (omega arith), All-nil (λ n. n < limit));
  front = λ xs ys both. (IsStrictlyIncreasing-front xs ys both.0, All-front (λ n. n < limit) xs ys both.1);
  takes = λ seen bytes both fits.
      then_ok _ _ (number_at w (flaw_at section 0 (length seen) Short) bytes)
      (number_at-takes wide (flaw_at section 0 (length seen) Short) bytes fits) (λ n taken.
      test_ok _ _ _ (rises seen n.0) (λ up. (
        taken.0,
        (IsStrictlyIncreasing-snoc seen n.0 both.0 (rises-above seen n.0 up), All-snoc (λ n. n < limit) seen n.0 both.1 taken.1),
      )));
  again = λ seen n rest both.
      let read = number_at-again wide (flaw_at section 0 (length seen) Short) n rest (All-last (λ n. n < limit) seen n both.1) in
      let up = above-rises seen n (IsStrictlyIncreasing-last seen n both.0) in
      rw (read, up) refl;
}

-- both numbers fit in four bytes
abbrev IsShortPair : ℕ × ℕ → Type 0
IsShortPair pair = (pair.0 < 2 ^ 32) × (pair.1 < 2 ^ 32)

-- rules
pub rules_listed : IsListed rule_at rule_bytes AreShortPairs
unfolding rule_at rule_bytes
rules_listed =
    each_listed rule_at rule_bytes IsShortPair
    (λ seen bytes fits.
    let missing = flaw_at Rules 0 (length seen) Short in
    then_ok _ _ (number_at w32 missing bytes) (number_at-takes wide32 missing bytes fits) (λ left one.
    then_ok _ _ (number_at w32 missing left.1) (number_at-takes wide32 missing left.1 one.0.fits) (λ right two.
    (Takes-then one.0 two.0, (one.1, two.1)))))
    (λ seen rule rest pair.
    let missing = flaw_at Rules 0 (length seen) Short in
    let first = number_at-again wide32 missing rule.0 (short_bytes rule.1 ++ rest) pair.0 in
    let second = number_at-again wide32 missing rule.1 rest pair.1 in
    ap (rule_at seen) (append_assoc (short_bytes rule.0) (short_bytes rule.1) rest) ∙ rw (first, second) refl)
