-- Items one after the other, as a loop reads them.
use Rattle.std.proofs.Common.{◌≡◌, ℕ, suc, ◌+◌, ◌-◌, ◌<◌, ◌≤◌, true, false, List, [], ◌∷◌, ◌++◌, length, get_or, ◌⊎◌, inl, inr, Result, Ok, Err, refl, sym, ap, ◌∙◌, arith}
use Rattle.std.specs.Int.{Width, w32}
use Rattle.std.proofs.lemmas.Grind.{get_or_default_zero}
use Rattle.std.proofs.lemmas.Bool.Decides.{nat_tests}
use Rattle.std.proofs.lemmas.List.{length-append}
use Rattle.track_types.specs.declared.flaw.Flaw.{Flaw}
use Rattle.track_types.specs.declared.flaw.Section.{Section}
use Rattle.track_types.specs.declared.flaw.Section.TheVariants.{Rules}
use Rattle.track_types.specs.declared.flaw.Kind.TheVariants.{Short, Order}
use Rattle.track_types.specs.declared.format_fault.FormatFault.{FormatFault}
use Rattle.track_types.specs.declared.format_fault.FormatFault.TheVariants as fault
use Rattle.index_format.specs.Answers.{IsFormatFault}
use Rattle.index_format.specs.Fields.{flaw_at, number_at, items_at, short_at, rises, rising_at, rule_at}

-- i of count items were read, and what is left to read gives what the whole does
pub record IsUnderWay {A S : Type 0} (next : List A → S → Result (A × S) Flaw) (count i : ℕ) (seen : List A) (rest bytes : S) : Type 0 where
  pub long : length seen ≡ i
  pub read : items_at next (count - i) seen rest ≡ items_at next count [] bytes

module _ {A S : Type 0} {next : List A → S → Result (A × S) Flaw} {count i : ℕ} {seen : List A} {rest bytes : S} (so_far : IsUnderWay next count i seen rest bytes) where
  -- one more item was read
  pub items_at-more : (item : A) (after : S) (new : List A)
      → i < count → next seen rest ≡ Ok (item, after) → new ≡ seen ++ item ∷ []
      → IsUnderWay next count (i + 1) new after bytes
  unfolding items_at
  items_at-more item after new within read appended =
      let left : count - i ≡ suc (count - (i + 1)) = omega arith in
      let one : items_at next (count - i) seen rest ≡ items_at next (count - (i + 1)) (seen ++ item ∷ []) after =
      rw (left, read) refl in
      record {
        long = rw appended (omega (arith, so_far.long, length-append seen (item ∷ [])));
        read = rw appended (sym one ∙ so_far.read);
      }

  -- an item could not be read: so can the whole not
  pub items_at-fault : (why : FormatFault)
      → i < count → IsFormatFault (next seen rest) why → IsFormatFault (items_at next count [] bytes) why
  unfolding items_at
  items_at-fault fault.Memory within read = tt
  items_at-fault (fault.Flaw flaw) within read =
      let left : count - i ≡ suc (count - (i + 1)) = omega arith in
      let one : items_at next (count - i) seen rest ≡ Err flaw = rw (left, read) refl in
      sym so_far.read ∙ one

  -- all items were read
  pub items_at-done : count ≤ i → items_at next count [] bytes ≡ Ok (seen, rest)
  unfolding items_at
  items_at-done over =
      let left : count - i ≡ 0 = omega arith in
      let one : items_at next (count - i) seen rest ≡ Ok (seen, rest) = rw left refl in
      sym so_far.read ∙ one

-- a number in a list is the number at the front
pub short_at-number : (section : Section) (period i : ℕ) (seen bytes : List ℕ) (missing : Flaw)
    → length seen ≡ i → missing ≡ flaw_at section period i Short
    → short_at section period seen bytes ≡ number_at w32 missing bytes
unfolding short_at
short_at-number section period i seen bytes missing long is =
    ap (λ k. number_at w32 (flaw_at section period k Short) bytes) long
    ∙ ap (λ flaw. number_at w32 flaw bytes) (sym is)

module _ (seen : List ℕ) (n i : ℕ) (long : length seen ≡ i) where
  -- a first number rises
  rises-first : i ≤ 0 → rises seen n ≡ true
  rises-first first = grind (arith, nat_tests, long, first)

  -- one above the last rises
  rises-above : (last : ℕ) → 0 < i → last ≡ get_or seen (i - 1) last → last < n → rises seen n ≡ true
  rises-above last some is above =
      let zero_default : last ≡ get_or seen (length seen - 1) 0 =
      is ∙ get_or_default_zero seen (i - 1) last (omega arith) ∙ ap (λ k. get_or seen (k - 1) 0) (sym long) in
      grind (arith, nat_tests, zero_default, long, some, above)

  -- one that is not above the last falls
  rises-below : (last : ℕ) → 0 < i → last ≡ get_or seen (i - 1) last → n ≤ last → rises seen n ≡ false
  rises-below last some is below =
      let zero_default : last ≡ get_or seen (length seen - 1) 0 =
      is ∙ get_or_default_zero seen (i - 1) last (omega arith) ∙ ap (λ k. get_or seen (k - 1) 0) (sym long) in
      grind (arith, nat_tests, zero_default, long, some, below)

module _ (w : Width) (section : Section) (i : ℕ) (seen bytes : List ℕ) (missing : Flaw) (long : length seen ≡ i) (is : missing ≡ flaw_at section 0 i Short) where
  -- the flaw of a number, as the list's length tells it
  number : number_at w (flaw_at section 0 (length seen) Short) bytes ≡ number_at w missing bytes
  number = ap (λ k. number_at w (flaw_at section 0 k Short) bytes) long
      ∙ ap (λ flaw. number_at w flaw bytes) (sym is)

  -- a number that is not there is not one that rises
  rising_at-fault : (why : FormatFault) → IsFormatFault (number_at w missing bytes) why
      → IsFormatFault (rising_at w section seen bytes) why
  unfolding rising_at
  rising_at-fault fault.Memory read = tt
  rising_at-fault (fault.Flaw flaw) read = rw (number, read) refl

  -- a number that does not rise is a flaw
  rising_at-order : (n : ℕ) (rest : List ℕ) → number_at w missing bytes ≡ Ok (n, rest) → rises seen n ≡ false
      → rising_at w section seen bytes ≡ Err (flaw_at section 0 i Order)
  unfolding rising_at
  rising_at-order n rest read falls = rw (number, read, falls, long) refl

  -- a number that rises is taken
  rising_at-ok : (n : ℕ) (rest : List ℕ) → number_at w missing bytes ≡ Ok (n, rest) → rises seen n ≡ true
      → rising_at w section seen bytes ≡ Ok (n, rest)
  unfolding rising_at
  rising_at-ok n rest read up = rw (number, read, up) refl

-- rising numbers under way, and how the next one is missing
module _ (w : Width) (section : Section) {count i : ℕ} {seen rest bytes : List ℕ}
    (so_far : IsUnderWay (rising_at w section) count i seen rest bytes) (missing : Flaw)
    (is : missing ≡ flaw_at section 0 i Short) (here : i < count) where
  -- it is
  pub rising-missing : (why : FormatFault) → IsFormatFault (number_at w missing rest) why
      → IsFormatFault (items_at (rising_at w section) count [] bytes) why
  rising-missing why read =
      items_at-fault so_far why here (rising_at-fault w section i seen rest missing so_far.long is why read)

  module _ (n : ℕ) (after : List ℕ) (read : number_at w missing rest ≡ Ok (n, after)) where
    -- it is not above the one before
    pub rising-falls : (last : ℕ) (told : Flaw) → 0 < i → last ≡ get_or seen (i - 1) last → n ≤ last
        → told ≡ flaw_at section 0 i Order → IsFormatFault (items_at (rising_at w section) count [] bytes) (fault.Flaw told)
    rising-falls last told some last_is below told_is =
        let falls = rises-below seen n i so_far.long last some last_is below in
        rw told_is (items_at-fault so_far (fault.Flaw (flaw_at section 0 i Order)) here
        (rising_at-order w section i seen rest missing so_far.long is n after read falls))

    -- it is the first, or above the one before
    pub rising-more : (new : List ℕ)
        → (i ≤ 0) ⊎ ((last : ℕ) × (0 < i) × (last ≡ get_or seen (i - 1) last) × (last < n))
        → new ≡ seen ++ n ∷ [] → IsUnderWay (rising_at w section) count (i + 1) new after bytes
    rising-more new above appended =
        let up : rises seen n ≡ true = elim above [
          | inl first ↦ rises-first seen n i so_far.long first
          | inr later ↦ rises-above seen n i so_far.long later.0 later.1 later.2 later.3
        ] in
        items_at-more so_far n after new here (rising_at-ok w section i seen rest missing so_far.long is n after read up)
        appended

module _ (i : ℕ) (seen : List (ℕ × ℕ)) (bytes : List ℕ) (missing : Flaw) (long : length seen ≡ i) (is : missing ≡ flaw_at Rules 0 i Short) where
  -- the flaw of either number of a rule
  half : (bytes : List ℕ) → number_at w32 (flaw_at Rules 0 (length seen) Short) bytes ≡ number_at w32 missing bytes
  half bytes = ap (λ k. number_at w32 (flaw_at Rules 0 k Short) bytes) long
      ∙ ap (λ flaw. number_at w32 flaw bytes) (sym is)

  -- a rule whose first number is not there
  pub rule_at-left : (why : FormatFault) → IsFormatFault (number_at w32 missing bytes) why → IsFormatFault (rule_at seen bytes) why
  unfolding rule_at
  rule_at-left fault.Memory read = tt
  rule_at-left (fault.Flaw flaw) read = rw (half bytes, read) refl

  -- a rule whose second number is not there
  pub rule_at-right : (left : ℕ) (rest : List ℕ) (why : FormatFault) → number_at w32 missing bytes ≡ Ok (left, rest)
      → IsFormatFault (number_at w32 missing rest) why → IsFormatFault (rule_at seen bytes) why
  unfolding rule_at
  rule_at-right left rest fault.Memory first second = tt
  rule_at-right left rest (fault.Flaw flaw) first second = rw (half bytes, first, half rest, second) refl

  -- a rule
  pub rule_at-ok : (left : ℕ) (rest : List ℕ) (right : ℕ) (behind : List ℕ) → number_at w32 missing bytes ≡ Ok (left, rest)
      → number_at w32 missing rest ≡ Ok (right, behind) → rule_at seen bytes ≡ Ok ((left, right), behind)
  unfolding rule_at
  rule_at-ok left rest right behind first second = rw (half bytes, first, half rest, second) refl
