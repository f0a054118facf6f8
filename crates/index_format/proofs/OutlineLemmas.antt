-- Ascending lists, read from their gaps.
use Rattle.std.proofs.Common.{◌≡◌, ℕ, suc, ◌+◌, ◌-◌, ◌*◌, ◌<◌, ◌≤◌, ◌^◌, false, eqb, Bool, List, [], ◌∷◌, ◌++◌, length, get_or, Ok, Err, refl, sym, ap, subst, ◌∙◌, arith, drop, append_assoc, append-nil}
use Rattle.std.proofs.Math.Seq.{get_or-append_seam}
use Rattle.std.proofs.lemmas.Bool.Decides.{nat_tests}
use Rattle.std.proofs.lemmas.List.{length-append, drop_all, drop_more}
use Rattle.std.specs.List.Sorted.{IsStrictlyIncreasing}
use Rattle.bit_stream.specs.Numbers.{number_bits}
use Rattle.spiral_code.specs.Spiral.{square}
use Rattle.rule_store.specs.Flaws.{reach_limit}
use Rattle.rule_store.proofs.FlawLemmas.{leads_out-above, leads_out-below}
use Rattle.list_laws.proofs.IncreasingLemmas.{increasing-below}
use Rattle.track_types.specs.declared.flaw.Kind.TheVariants.{Field, Code}
use Rattle.track_types.specs.declared.flaw.Section.TheVariants.{Objects, Alphabet}
use Rattle.track_types.specs.declared.format_fault.FormatFault.{FormatFault}
use Rattle.track_types.specs.declared.format_fault.FormatFault.TheVariants as fault
use Rattle.index_format.specs.Answers.{IsFormatFault}
use Rattle.index_format.specs.Fields.{flaw_at}
use Rattle.index_format.specs.Elements.{told_at}
use Rattle.index_format.specs.OutlineLists.{least_after, object_in, value_in, gaps_from, told_bits, gap_bits}

-- after a number the next one may follow
pub least_after-more : (seen : List ℕ) (number : ℕ) → least_after (seen ++ number ∷ []) ≡ number + 1
least_after-more seen number =
    let long : length (seen ++ number ∷ []) ≡ suc (length seen) = omega (arith, length-append seen (number ∷ [])) in
    let some : eqb (suc (length seen)) 0 ≡ false = grind (arith, nat_tests) in
    let place : suc (length seen) - 1 ≡ length seen = omega arith in
    rw (long, some, place, get_or-append_seam seen number [] 0) refl

module _ (seen : List ℕ) (bits : List Bool) (i least : ℕ) (long : length seen ≡ i) (least_is : least ≡ least_after seen) where
  -- a gap that cannot be read
  pub object_in-untold : (why : FormatFault) → IsFormatFault (told_at (flaw_at Objects 0 i) bits) why → IsFormatFault (object_in seen bits) why
  unfolding object_in
  object_in-untold fault.Memory read = tt
  object_in-untold (fault.Flaw flaw) read = rw (long, read) refl

  module _ (gap : ℕ) (after : List Bool) (told : told_at (flaw_at Objects 0 i) bits ≡ Ok (gap, after)) where
    here : told_at (flaw_at Objects 0 (length seen)) bits ≡ Ok (gap, after)
    here = subst (λ k. told_at (flaw_at Objects 0 k) bits ≡ Ok (gap, after)) (sym long) told

    -- an object of more than four bytes
    pub object_in-large : 2 ^ 32 - 1 < least + gap → object_in seen bits ≡ Err (flaw_at Objects 0 i Field)
    unfolding object_in
    object_in-large large = rw (here, long) (grind (arith, nat_tests, large, least_is))

    -- an object
    pub object_in-ok : least + gap ≤ 2 ^ 32 - 1 → object_in seen bits ≡ Ok (least + gap, after)
    unfolding object_in
    object_in-ok small = rw here (grind (arith, nat_tests, small, least_is))

module _ (height : ℕ) (seen : List ℕ) (bits : List Bool) (i least : ℕ) (long : length seen ≡ i) (least_is : least ≡ least_after seen) where
  -- a gap that cannot be read
  pub value_in-untold : (why : FormatFault) → IsFormatFault (told_at (flaw_at Alphabet 0 i) bits) why
      → IsFormatFault (value_in height seen bits) why
  unfolding value_in
  value_in-untold fault.Memory read = tt
  value_in-untold (fault.Flaw flaw) read = rw (long, read) refl

  module _ (gap : ℕ) (after : List Bool) (told : told_at (flaw_at Alphabet 0 i) bits ≡ Ok (gap, after)) where
    there : told_at (flaw_at Alphabet 0 (length seen)) bits ≡ Ok (gap, after)
    there = subst (λ k. told_at (flaw_at Alphabet 0 k) bits ≡ Ok (gap, after)) (sym long) told

    -- a value that leads out of every grid of the height
    pub value_in-far : square (2 * reach_limit height + 1) < least + gap → value_in height seen bits ≡ Err (flaw_at Alphabet 0 i Code)
    unfolding value_in
    value_in-far far =
        let above : square (2 * reach_limit height + 1) < least_after seen + gap = subst (λ n. square (2 * reach_limit height + 1) < n + gap) least_is far in
        rw (there, leads_out-above height (least_after seen + gap) above) (ap (λ k. Err (flaw_at Alphabet 0 k Code)) long)

    -- a value
    pub value_in-ok : least + gap ≤ square (2 * reach_limit height + 1) → value_in height seen bits ≡ Ok (least + gap, after)
    unfolding value_in
    value_in-ok near =
        let below : least_after seen + gap ≤ square (2 * reach_limit height + 1) = subst (λ n. n + gap ≤ square (2 * reach_limit height + 1)) least_is near in
        rw (there, leads_out-below height (least_after seen + gap) below) (ap (λ n. Ok (n + gap, after)) (sym least_is))

-- numbers that were put by their gaps, and those that are left, are all
pub record IsPutting (numbers : List ℕ) (i least : ℕ) (before bits : List Bool) : Type 0 where
  pub joined : bits ++ told_bits (gaps_from least (drop i numbers)) ≡ before ++ gap_bits numbers
  pub low : i < length numbers → least ≤ get_or numbers i 0

-- nothing was put
pub putting-starts : (numbers : List ℕ) (before : List Bool) → IsPutting numbers 0 0 before before
unfolding gap_bits
putting-starts numbers before = record { joined = refl; low = λ some. omega arith }

module _ {numbers : List ℕ} {i least : ℕ} {before bits : List Bool} (putting : IsPutting numbers i least before bits) where
  -- one number more
  pub putting-more : (next : List Bool) → IsStrictlyIncreasing numbers → i < length numbers
      → next ≡ bits ++ number_bits (get_or numbers i 0 - least) → IsPutting numbers (i + 1) (get_or numbers i 0 + 1) before next
  unfolding gaps_from told_bits
  putting-more next ascending some is =
      let x = get_or numbers i 0 in
      let rest = drop (i + 1) numbers in
      let split : drop i numbers ≡ x ∷ rest = drop_more numbers i 0 some in
      let up : suc x ≡ x + 1 = omega arith in
      record {
        joined = ap (λ front. front ++ told_bits (gaps_from (x + 1) rest)) is
            ∙ append_assoc bits (number_bits (x - least)) (told_bits (gaps_from (x + 1) rest))
            ∙ ap (λ n. bits ++ (number_bits (x - least) ++ told_bits (gaps_from n rest))) (sym up)
            ∙ ap (λ numbers. bits ++ told_bits (gaps_from least numbers)) (sym split) ∙ putting.joined;
        low = λ more. omega (arith, increasing-below numbers ascending i (i + 1) (omega arith) more);
      }

  -- all numbers were put
  pub putting-ends : length numbers ≤ i → bits ≡ before ++ gap_bits numbers
  unfolding gaps_from told_bits
  putting-ends over =
      sym (append-nil bits) ∙ ap (λ numbers. bits ++ told_bits (gaps_from least numbers)) (sym (drop_all i numbers over)) ∙ putting.joined
