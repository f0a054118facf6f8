-- The first cause for which rows have no chart.
use Rattle.std.proofs.Common.{◌≡◌, ℕ, ◌+◌, ◌<◌, ◌≤◌, true, Option, None, Some, inl, inr, refl, sym, ◌∙◌, arith}
use Rattle.std.specs.Prelude.{nat_lt}
use Rattle.std.proofs.lemmas.Bool.{cases_Bool}
use Rattle.std.proofs.lemmas.Bool.Decides.{nat_tests}
use Rattle.track_types.specs.Limits.{limit_of}
use Rattle.track_types.specs.declared.limit.LimitKind.TheVariants.{Rows}
use Rattle.gridding.specs.GridLimit.{IsGridFaultFor}
use Rattle.gridding.specs.declared.fault.GridFault.{GridFault}
use Rattle.gridding.specs.declared.fault.GridFault.TheVariants.{Empty, Limit, Memory}
use Rattle.path_union.specs.Fault.{count_fault}

-- where one cause is another, so are their faults
pub IsGridFaultFor-from : (first whole : Option GridFault) (told : GridFault)
    → (first ≡ Some told → whole ≡ Some told) → IsGridFaultFor first told → IsGridFaultFor whole told
IsGridFaultFor-from first whole Memory into is = tt
IsGridFaultFor-from first whole Empty into is = into is
IsGridFaultFor-from first whole (Limit kind value) into is = into is

pub count_fault-many : (rows : ℕ) → limit_of Rows < rows → count_fault rows ≡ Some (Limit Rows (limit_of Rows + 1))
count_fault-many rows many = let past : nat_lt (limit_of Rows) rows ≡ true = grind (arith, nat_tests) in rw past refl

-- where some are too many, more are
pub count_fault-more : (some more : ℕ) (told : GridFault) → some ≤ more → IsGridFaultFor (count_fault some) told
    → IsGridFaultFor (count_fault more) told
count_fault-more some more told least is = IsGridFaultFor-from (count_fault some) (count_fault more) told
    (λ past. elim (cases_Bool (nat_lt (limit_of Rows) some)) [
      | inl many ↦ count_fault-many more (grind (arith, nat_tests)) ∙ sym (rw many refl) ∙ past
      | inr few ↦ let never : None ≡ Some told = sym (rw few refl) ∙ past in absurd (cc)
    ]) is
