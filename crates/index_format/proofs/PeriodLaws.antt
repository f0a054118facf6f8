-- The sections of a period: what is read is spelled so and shaped, and what is shaped is read again.
use Rattle.std.proofs.Common.{◌≡◌, ℕ, ◌≤◌, List, [], ◌++◌, length, All, Ok, refl, ap, ◌∙◌, append_assoc, arith}
use Rattle.std.specs.Prelude.{IfOk, nat_le}
use Rattle.std.specs.List.{flat_map}
use Rattle.std.specs.Int.{w32}
use Rattle.std.proofs.lemmas.Bool.Decides.{nat_tests}
use Rattle.packed_bits.specs.Bits.{ones_of}
use Rattle.track_types.specs.PartsForm.{IsShapedPeriod}
use Rattle.track_types.specs.declared.flaw.Section.TheVariants.{Presence, Offsets, TreeLen, Tree, Lasts, Perm, Lengths}
use Rattle.track_types.specs.declared.flaw.Kind.TheVariants.{Short}
use Rattle.track_types.specs.declared.limit.TheConstants.{MAX_TREE}
use Rattle.track_types.specs.declared.period_parts.PeriodParts.{PeriodParts}
use Rattle.index_format.specs.Spelling.{short_bytes, bit_bytes, period_bytes}
use Rattle.index_format.specs.Fields.{flaw_at, number_at, items_at, short_at, bits_at}
use Rattle.index_format.specs.Reading.{tree_length_at, period_sections_at}
use Rattle.index_format.proofs.BitLemmas.{IsBytes}
use Rattle.index_format.proofs.Laws.{Takes, Takes-then, Takes-text, then_ok, test_ok, wide32, number_at-takes, number_at-again, IsListed, items_at-takes, items_at-again, bits_at-takes, bits_at-again}
use Rattle.index_format.proofs.ListLaws.{each_listed, shorts_listed}

-- a tree's length that was read is spelled so
tree_length_at-takes : (number : ℕ) (bytes : List ℕ) → IsBytes bytes
    → IfOk (tree_length_at number bytes) (λ n. Takes bytes (short_bytes n.0) n.1 × (n.0 ≤ MAX_TREE))
unfolding tree_length_at
tree_length_at-takes number bytes fits =
    let missing = flaw_at TreeLen number 0 Short in
    then_ok _ _ (number_at w32 missing bytes) (number_at-takes wide32 missing bytes fits) (λ n taken.
    test_ok _ _ _ (nat_le n.0 MAX_TREE) (λ low. (taken.0, grind (arith, nat_tests, low))))

tree_length_at-again : (number n : ℕ) (rest : List ℕ) → n ≤ MAX_TREE → tree_length_at number (short_bytes n ++ rest) ≡ Ok (n, rest)
unfolding tree_length_at
tree_length_at-again number n rest low =
    rw (number_at-again wide32 (flaw_at TreeLen number 0 Short) n rest (omega arith)) (grind (arith, nat_tests, low))

-- a period that was read is spelled so
pub period_sections_at-takes : (objects : ℕ) (seen : List PeriodParts) (bytes : List ℕ) → IsBytes bytes
    → IfOk (period_sections_at objects seen bytes) (λ period. Takes bytes (period_bytes period.0) period.1 × IsShapedPeriod objects period.0)
unfolding period_sections_at period_bytes
period_sections_at-takes objects seen bytes fits =
    let b = length seen in
    then_ok _ _ (bits_at Presence b objects bytes) (bits_at-takes Presence b objects bytes fits) (λ present t1.
    let n = ones_of present.0 in
    then_ok _ _ (items_at (short_at Offsets b) n [] present.1) (items_at-takes (shorts_listed Offsets b) n present.1 t1.0.fits) (λ offsets t2.
    then_ok _ _ (tree_length_at b offsets.1) (tree_length_at-takes b offsets.1 t2.0.fits) (λ long t3.
    then_ok _ _ (bits_at Tree b long.0 long.1) (bits_at-takes Tree b long.0 long.1 t3.0.fits) (λ tree t4.
    then_ok _ _ (bits_at Lasts b n tree.1) (bits_at-takes Lasts b n tree.1 t4.0.fits) (λ lasts t5.
    then_ok _ _ (items_at (short_at Perm b) n [] lasts.1) (items_at-takes (shorts_listed Perm b) n lasts.1 t5.0.fits) (λ perm t6.
    then_ok _ _ (items_at (short_at Lengths b) n [] perm.1) (items_at-takes (shorts_listed Lengths b) n perm.1 t6.0.fits) (λ lengths t7.
    let length_text : Takes offsets.1 (short_bytes (length tree.0)) long.1 =
    rw t4.1 t3.0 in (
      Takes-text _ (simp append_assoc refl)
          (Takes-then t1.0 (Takes-then t2.0 (Takes-then length_text (Takes-then t4.0 (Takes-then t5.0 (Takes-then t6.0 t7.0)))))),
      record {
        presence = t1.1;
        offsets = t2.2;
        bits = omega (arith, t4.1, t3.1);
        lasts = t5.1;
        perm = t6.2;
        lengths = t7.2;
        short_offsets = t2.1;
        short_perm = t6.1;
        short_lengths = t7.1;
      },
    ))))))))

-- a shaped period that is spelled so is read
pub period_sections_at-again : (objects : ℕ) (seen : List PeriodParts) (period : PeriodParts) (rest : List ℕ) → IsShapedPeriod objects period
    → period_sections_at objects seen (period_bytes period ++ rest) ≡ Ok (period, rest)
unfolding period_sections_at period_bytes
period_sections_at-again objects seen period rest shaped =
    let b = length seen in
    let n = ones_of period.present in
    let r7 = flat_map short_bytes period.lengths ++ rest in
    let r6 = flat_map short_bytes period.perm ++ r7 in
    let r5 = bit_bytes period.lasts ++ r6 in
    let r4 = bit_bytes period.tree ++ r5 in
    let r3 = short_bytes (length period.tree) ++ r4 in
    let r2 = flat_map short_bytes period.offsets ++ r3 in
    let text : period_bytes period ++ rest ≡ bit_bytes period.present ++ r2 = simp append_assoc refl in
    ap (period_sections_at objects seen) text ∙ rw (
      bits_at-again Presence b objects period.present r2 shaped.presence,
      items_at-again (shorts_listed Offsets b) period.offsets n r3 shaped.offsets shaped.short_offsets,
      tree_length_at-again b (length period.tree) r4 shaped.bits,
      bits_at-again Tree b (length period.tree) period.tree r5 refl,
      bits_at-again Lasts b n period.lasts r6 shaped.lasts,
      items_at-again (shorts_listed Perm b) period.perm n r7 shaped.perm shaped.short_perm,
      items_at-again (shorts_listed Lengths b) period.lengths n rest shaped.lengths shaped.short_lengths,
    ) refl

-- periods of so many objects
pub periods_listed : (objects : ℕ) → IsListed (period_sections_at objects) period_bytes (All (IsShapedPeriod objects))
periods_listed objects =
    each_listed (period_sections_at objects) period_bytes (IsShapedPeriod objects) (period_sections_at-takes objects)
    (period_sections_at-again objects)
