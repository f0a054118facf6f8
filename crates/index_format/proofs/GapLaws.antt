-- Ascending lists by their gaps: what was put is read, and what is read was put.
use Rattle.std.proofs.Common.{◌≡◌, ℕ, zero, suc, ◌+◌, ◌-◌, ◌*◌, ◌≤◌, ◌^◌, Bool, false, nat_le, List, [], ◌∷◌, ◌++◌, length, Ok, refl, sym, ap, subst, ◌∙◌, inl, inr, arith, append_assoc, append-nil}
use Rattle.std.specs.Prelude.{⊤}
use Rattle.std.proofs.lemmas.Bool.{cases_lt}
use Rattle.std.proofs.lemmas.Bool.Decides.{nat_tests}
use Rattle.bit_stream.specs.Numbers.{number_bits}
use Rattle.spiral_code.specs.Spiral.{square}
use Rattle.rule_store.specs.Flaws.{leads_out, reach_limit}
use Rattle.rule_store.proofs.FlawLemmas.{leads_out-above}
use Rattle.track_types.specs.declared.flaw.Kind.TheVariants.{Code, Field}
use Rattle.track_types.specs.declared.flaw.Section.TheVariants.{Objects, Alphabet}
use Rattle.index_format.specs.Fields.{flaw_at, items_at}
use Rattle.index_format.specs.Elements.{Element, told_at}
use Rattle.index_format.specs.OutlineLists.{least_after, object_in, value_in, gaps_from, told_bits}
use Rattle.index_format.proofs.ElementLemmas.{bind-only, else-only, same-read, then-only, told_at-number_bits, told_at-only}
use Rattle.index_format.proofs.OutlineLemmas.{least_after-more, object_in-ok, value_in-ok}

-- each number is at least the one that may stand there, and at most a greatest one
abbrev pub AscendsTo : ℕ → ℕ → List ℕ → Type 0
AscendsTo greatest least [] = ⊤
AscendsTo greatest least (number ∷ numbers) = (least ≤ number) × (number ≤ greatest) × AscendsTo greatest (suc number) numbers

-- a number from a least to a greatest one, and the bits of its gap
pub record IsGap (greatest least number : ℕ) (bits rest : List Bool) : Type 0 where
  pub low : least ≤ number
  pub high : number ≤ greatest
  pub taken : bits ≡ number_bits (number - least) ++ rest

-- a list is read by gaps: its numbers are at most a greatest one
pub record IsGapped (greatest : ℕ) (next : List ℕ → List Bool → Element ℕ) : Type 0 where
  pub again : (seen : List ℕ) (number : ℕ) (rest : List Bool) → least_after seen ≤ number → number ≤ greatest
      → next seen (number_bits (number - least_after seen) ++ rest) ≡ Ok (number, rest)
  pub only : (seen : List ℕ) (bits : List Bool) (number : ℕ) (rest : List Bool) → next seen bits ≡ Ok (number, rest)
      → IsGap greatest (least_after seen) number bits rest

-- numbers that were read after those before them: so many, ascending, from the bits of their gaps
pub record AreGaps (greatest count : ℕ) (seen all : List ℕ) (bits rest : List Bool) : Type 0 where
  pub numbers : List ℕ
  pub whole : all ≡ seen ++ numbers
  pub long : length numbers ≡ count
  pub ascends : AscendsTo greatest (least_after seen) numbers
  pub taken : bits ≡ told_bits (gaps_from (least_after seen) numbers) ++ rest

module _ {greatest : ℕ} {next : List ℕ → List Bool → Element ℕ} (gapped : IsGapped greatest next) where
  -- numbers that were put are read
  pub gaps-again : (seen numbers : List ℕ) (rest : List Bool) → AscendsTo greatest (least_after seen) numbers
      → items_at next (length numbers) seen (told_bits (gaps_from (least_after seen) numbers) ++ rest) ≡ Ok (seen ++ numbers, rest)
  unfolding items_at told_bits gaps_from
  gaps-again seen [] rest ascends = ap (λ list. Ok (list, rest)) (sym (append-nil seen))
  gaps-again seen (number ∷ numbers) rest ascends =
      let least = least_after seen in
      let behind = told_bits (gaps_from (suc number) numbers) ++ rest in
      let split : (number_bits (number - least) ++ told_bits (gaps_from (suc number) numbers)) ++ rest ≡ number_bits (number - least) ++ behind =
      append_assoc (number_bits (number - least)) (told_bits (gaps_from (suc number) numbers)) rest in
      let one = gapped.again seen number behind ascends.0 ascends.1 in
      let more : least_after (seen ++ number ∷ []) ≡ suc number = least_after-more seen number ∙ (omega arith) in
      let again = gaps-again (seen ++ number ∷ []) numbers rest (subst (λ n. AscendsTo greatest n numbers) (sym more) ascends.2) in
      rw (split, one) (ap (λ n. items_at next (length numbers) (seen ++ number ∷ []) (told_bits (gaps_from n numbers) ++ rest)) (sym more)
      ∙ again ∙ ap (λ list. Ok (list, rest)) (append_assoc seen (number ∷ []) numbers))

  -- numbers that are read were put
  pub gaps-only : (count : ℕ) (seen : List ℕ) (bits : List Bool) (all : List ℕ) (rest : List Bool)
      → items_at next count seen bits ≡ Ok (all, rest) → AreGaps greatest count seen all bits rest
  unfolding items_at told_bits gaps_from
  gaps-only zero seen bits all rest read =
      let same = same-read seen all bits rest read in
      record {
        numbers = [];
        whole = sym same.0 ∙ sym (append-nil seen);
        long = refl;
        ascends = tt;
        taken = same.1;
      }
  gaps-only (suc more) seen bits all rest read =
      let first = bind-only (next seen bits) (λ item. items_at next more (seen ++ item.0 ∷ []) item.1) (all, rest) read in
      let number = first.0.0 in
      let one = gapped.only seen bits number first.0.1 first.1 in
      let others = gaps-only more (seen ++ number ∷ []) first.0.1 all rest first.2 in
      let least = least_after seen in
      let up : least_after (seen ++ number ∷ []) ≡ suc number = least_after-more seen number ∙ (omega arith) in
      let behind : first.0.1 ≡ told_bits (gaps_from (suc number) others.numbers) ++ rest =
      others.taken ∙ ap (λ n. told_bits (gaps_from n others.numbers) ++ rest) up in
      record {
        numbers = number ∷ others.numbers;
        whole = others.whole ∙ append_assoc seen (number ∷ []) others.numbers;
        long = ap suc others.long;
        ascends = (one.low, one.high, subst (λ n. AscendsTo greatest n others.numbers) up others.ascends);
        taken = one.taken ∙ ap (λ tail. number_bits (number - least) ++ tail) behind
            ∙ sym (append_assoc (number_bits (number - least)) (told_bits (gaps_from (suc number) others.numbers)) rest);
      }

-- objects are below 2^32
pub objects-gapped : IsGapped (2 ^ 32 - 1) object_in
unfolding object_in
objects-gapped = record {
  again = λ seen number rest low high.
      let gap = number - least_after seen in
      let whole : least_after seen + gap ≡ number = omega (arith, low) in
      let read = told_at-number_bits (flaw_at Objects 0 (length seen)) gap rest (omega (arith, high)) in
      object_in-ok seen (number_bits gap ++ rest) (length seen) (least_after seen) refl refl gap rest read (omega (arith, whole, high))
      ∙ ap (λ n. Ok (n, rest)) whole;
  only = λ seen bits number rest read.
      let flaw = flaw_at Objects 0 (length seen) in
      let first = bind-only (told_at flaw bits) _ (number, rest) read in
      let gap = first.0.0 in
      let told = told_at-only flaw gap bits first.0.1 first.1 in
      let test = then-only (nat_le (least_after seen + gap) (2 ^ 32 - 1)) (flaw Field)
      (Ok (least_after seen + gap, first.0.1)) (number, rest) first.2 in
      let same = same-read (least_after seen + gap) number first.0.1 rest test.1 in
      let back : number - least_after seen ≡ gap = omega (arith, same.0) in
      record { low = omega (arith, same.0); high = grind (arith, nat_tests, test.0, same.0); taken = told.0 ∙ rw (back, same.1) refl };
}

-- a value leads from some cell of the grid to another one or the same
pub values-gapped : (height : ℕ) → square (2 * reach_limit height + 1) + 2 ≤ 2 ^ 56
    → IsGapped (square (2 * reach_limit height + 1)) (value_in height)
unfolding value_in
values-gapped height small = record {
  again = λ seen number rest low high.
      let gap = number - least_after seen in
      let whole : least_after seen + gap ≡ number = omega (arith, low) in
      let read = told_at-number_bits (flaw_at Alphabet 0 (length seen)) gap rest (omega (arith, high, small)) in
      value_in-ok height seen (number_bits gap ++ rest) (length seen) (least_after seen) refl refl gap rest read
      (subst (λ n. n ≤ square (2 * reach_limit height + 1)) (sym whole) high)
      ∙ ap (λ n. Ok (n, rest)) whole;
  only = λ seen bits number rest read.
      let flaw = flaw_at Alphabet 0 (length seen) in
      let first = bind-only (told_at flaw bits) _ (number, rest) read in
      let gap = first.0.0 in
      let told = told_at-only flaw gap bits first.0.1 first.1 in
      let test = else-only (leads_out height (least_after seen + gap)) (flaw Code)
      (Ok (least_after seen + gap, first.0.1)) (number, rest) first.2 in
      let same = same-read (least_after seen + gap) number first.0.1 rest test.1 in
      let back : number - least_after seen ≡ gap = omega (arith, same.0) in
      record {
        low = omega (arith, same.0);
        high = subst (λ n. n ≤ square (2 * reach_limit height + 1)) same.0 (within (least_after seen + gap) test.0);
        taken = told.0 ∙ rw (back, same.1) refl;
      };
}
  where
    within : (value : ℕ) → leads_out height value ≡ false → value ≤ square (2 * reach_limit height + 1)
    within value near = elim (cases_lt (square (2 * reach_limit height + 1)) value) [
      | inl above ↦ absurd (let e = sym near ∙ leads_out-above height value above in cc)
      | inr below ↦ below
    ]
