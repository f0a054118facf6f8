-- Steps of reading: what was put is read, and what is read was put.
use Rattle.std.proofs.Common.{◌≡◌, ℕ, ◌+◌, ◌<◌, ◌≤◌, ◌^◌, true, false, Bool, List, ◌++◌, Result, Ok, Err, refl, ap, ◌∙◌}
use Rattle.std.specs.Prelude.{if◌then◌else◌}
use Rattle.std.proofs.Math.Nat.{mod-eq_of_lt}
use Rattle.packed_bits.specs.Words.{low_bits}
use Rattle.bit_stream.specs.Numbers.{TakenBits, low_in, number_bits, number_in}
use Rattle.bit_stream.proofs.NumberLaws.{low_in-low_bits, low_in-only, number_in-number_bits, number_in-only}
use Rattle.track_types.specs.declared.flaw.Flaw.{Flaw}
use Rattle.track_types.specs.declared.flaw.Kind.{Kind}
use Rattle.track_types.specs.declared.format_fault.FormatFault.{FormatFault}
use Rattle.track_types.specs.declared.format_fault.FormatFault.TheVariants as fault
use Rattle.index_format.specs.Answers.{IsFormatFault}
use Rattle.index_format.specs.Fields.{◌>>=◌}
use Rattle.index_format.specs.Elements.{Element, at_place, told_at, wide_at}

-- what was read first leads on
pub bind-ok : {A B : Type 0} (first : Element A) (next : A × List Bool → Element B) (x : A × List Bool)
    → first ≡ Ok x → first >>= next ≡ next x
bind-ok first next x read = rw read refl

-- what begins with a step that could not be read was not read either
pub bind-fault : {A B : Type 0} {whole : Element B} (first : Element A) (next : A × List Bool → Element B) → whole ≡ first >>= next
    → (why : FormatFault) → IsFormatFault first why → IsFormatFault whole why
bind-fault first next begins fault.Memory read = tt
bind-fault first next begins (fault.Flaw flaw) read = begins ∙ rw read refl

-- nor was what is the same
pub fault-of : {A : Type 0} {first second : Element A} → first ≡ second → (why : FormatFault) → IsFormatFault second why
    → IsFormatFault first why
fault-of same fault.Memory read = tt
fault-of same (fault.Flaw flaw) read = same ∙ read

-- what was answered, or else something
abbrev answer_or : {A : Type 0} → A → Result A Flaw → A
answer_or other (Ok it) = it
answer_or other (Err flaw) = other

-- two answers that are the same
ok-same : {A : Type 0} (x y : A) → ◌≡◌ {A = Result A Flaw} (Ok x) (Ok y) → x ≡ y
ok-same x y same = ap (answer_or x) same

-- the same elements, and the same bits after them
pub same-read : {A : Type 0} (x y : A) (bits rest : List Bool) → ◌≡◌ {A = Element A} (Ok (x, bits)) (Ok (y, rest))
    → (x ≡ y) × (bits ≡ rest)
same-read x y bits rest same = let both = ok-same (x, bits) (y, rest) same in (ap (λ it. it.0) both, ap (λ it. it.1) both)

-- a first step that succeeded, and the second
pub bind-only : {A B : Type 0} (first : Result A Flaw) (next : A → Result B Flaw) (last : B) → first >>= next ≡ Ok last
    → (x : A) × (first ≡ Ok x) × (next x ≡ Ok last)
bind-only (Ok x) next last read = (x, refl, read)
bind-only (Err flaw) next last read = absurd (cc)

-- a test that was passed
pub else-only : {A : Type 0} (test : Bool) (flaw : Flaw) (other : Element A) (last : A × List Bool)
    → (if test then Err flaw else other) ≡ Ok last → (test ≡ false) × (other ≡ Ok last)
else-only true flaw other last read = absurd (cc)
else-only false flaw other last read = (refl, read)

pub then-only : {A : Type 0} (test : Bool) (flaw : Flaw) (other : Element A) (last : A × List Bool)
    → (if test then other else Err flaw) ≡ Ok last → (test ≡ true) × (other ≡ Ok last)
then-only true flaw other last read = (refl, read)
then-only false flaw other last read = absurd (cc)

-- bits that were taken
at_place-only : (flaw : Kind → Flaw) (taken : TakenBits ℕ) (last : ℕ × List Bool) → at_place flaw taken ≡ Ok last → taken ≡ Ok last
at_place-only flaw (Ok it) last read = ap Ok (ok-same it last read)
at_place-only flaw (Err fault) last read = absurd (cc)

module _ (flaw : Kind → Flaw) where
  -- a number that was put is read
  pub told_at-number_bits : (number : ℕ) (bits : List Bool) → number + 2 ≤ 2 ^ 56
      → told_at flaw (number_bits number ++ bits) ≡ Ok (number, bits)
  unfolding told_at
  told_at-number_bits number bits small = rw (number_in-number_bits number bits small) refl

  -- a number that is read was put
  pub told_at-only : (number : ℕ) (bits rest : List Bool) → told_at flaw bits ≡ Ok (number, rest)
      → (bits ≡ number_bits number ++ rest) × (number + 2 ≤ 2 ^ 56)
  unfolding told_at
  told_at-only number bits rest read = number_in-only number bits rest (at_place-only flaw (number_in bits) (number, rest) read)

  -- and so it is with a number of so many bits
  pub wide_at-low_bits : (width value : ℕ) (rest : List Bool) → value < 2 ^ width
      → wide_at flaw width (low_bits width value ++ rest) ≡ Ok (value, rest)
  unfolding wide_at
  wide_at-low_bits width value rest small = rw (low_in-low_bits width value rest, mod-eq_of_lt small) refl

  pub wide_at-only : (width value : ℕ) (bits rest : List Bool) → wide_at flaw width bits ≡ Ok (value, rest)
      → (bits ≡ low_bits width value ++ rest) × (value < 2 ^ width)
  unfolding wide_at
  wide_at-only width value bits rest read = low_in-only width value bits rest (at_place-only flaw (low_in width bits) (value, rest) read)
