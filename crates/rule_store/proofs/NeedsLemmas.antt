-- Which reads may be made where those of a log may.
use Rattle.std.proofs.Common.{◌≡◌, ℕ, ◌+◌, ◌-◌, ◌<◌, ◌≤◌, Bool, drop, length, IsTrue, subst, arith}
use Rattle.std.specs.Prelude.{nat_le, nat_lt}
use Rattle.std.proofs.lemmas.Bool.{and_parts}
use Rattle.std.proofs.lemmas.Bool.Decides.{nat_tests}
use Rattle.std.proofs.lemmas.List.{length-drop, length-take}
use Rattle.step_count.specs.Reads.{Read, ReadsWithin, ofPeriod, ofRule, ofSymbol}
use Rattle.rule_store.specs.Log.{log_of}
use Rattle.rule_store.specs.Needs.{is_among, log_needs, places_of}
use Rattle.rule_store.specs.declared.log_view.LogView.{LogView}

-- a place of one range is among those of a wider one
pub is_among-within : (few many : ℕ × ℕ) (place : ℕ) → many.0 ≤ few.0 → few.1 ≤ many.1 → IsTrue (is_among few place)
    → IsTrue (is_among many place)
is_among-within few many place low high is =
    let both = and_parts (nat_le few.0 place) (nat_lt place few.1) is in
    let first : few.0 ≤ place = grind (arith, nat_tests, both.0) in
    let last : place < few.1 = grind (arith, nat_tests, both.1) in
    grind (arith, nat_tests, low, high, first, last)

-- no place is among none
pub is_among-none : (place : ℕ) → IsTrue (is_among (0, 0) place) → (A : Type 0) → A
is_among-none place is A =
    let both = and_parts (nat_le 0 place) (nat_lt place 0) is in
    let less : place < 0 = grind (arith, nat_tests, both.1) in
    absurd (omega (arith, less))

-- the reads of a log, where those of more symbols are needed
pub log_needs-within : (few many : ℕ × ℕ) → many.0 ≤ few.0 → few.1 ≤ many.1
    → ReadsWithin (log_needs few) (log_needs many)
log_needs-within few many low high (ofPeriod period) none = absurd (cc none)
log_needs-within few many low high (ofRule rule) is = is
log_needs-within few many low high (ofSymbol place) is = is_among-within few many place low high is

-- the reads of a log, where those of the same places are needed
pub log_needs-same : {few many : ℕ × ℕ} → few ≡ many → ReadsWithin (log_needs few) (log_needs many)
log_needs-same same read needed = subst (λ (places : ℕ × ℕ). IsTrue (log_needs places read)) same needed

module _ (may : Read → Bool) where
  -- the reads of a log, where those of more symbols may be made
  pub within-places : (few many : ℕ × ℕ) → many.0 ≤ few.0 → few.1 ≤ many.1 → ReadsWithin (log_needs many) may
      → ReadsWithin (log_needs few) may
  within-places few many low high within read needed = within read (log_needs-within few many low high read needed)

  -- the read of a log's symbol
  pub may-symbol : (view : LogView) (i : ℕ) → i < length (log_of view) → ReadsWithin (log_needs (places_of view)) may
      → IsTrue (may (ofSymbol (view.from + i)))
  may-symbol view i less within =
      let behind : view.from + i < view.from + view.len = omega (
        arith,
        less,
        length-drop view.from view.rules.now.symbols,
        length-take (view.from + view.len - view.from) (drop view.from view.rules.now.symbols),
      ) in
      within (ofSymbol (view.from + i)) (grind (arith, nat_tests, behind))
