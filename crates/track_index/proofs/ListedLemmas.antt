-- Whether an object has a place among those that are listed.
use Rattle.std.proofs.Common.{◌≡◌, ℕ, ◌<◌, true, false, List, get_or, length, sym, ◌∙◌, ap, arith, inl, inr}
use Rattle.std.specs.Prelude.{◌==◌, is_some, slice_index}
use Rattle.std.specs.List.{range_with_len}
use Rattle.std.proofs.lemmas.Bool.{cases_Bool}
use Rattle.std.proofs.lemmas.Bool.Decides.{nat_tests}
use Rattle.std.proofs.lemmas.List.{get_or_default}
use Rattle.std.proofs.lemmas.List.Elements.{Contains-get_or}
use Rattle.list_laws.proofs.FindLemmas.{find_in_range-all}
use Rattle.list_laws.proofs.KeyedLemmas.{member_of_range}
use Rattle.list_laws.proofs.MemberLemmas.{find_cases, list_any-none, none_from_list_any}
use Rattle.snapshots.specs.Parts.{index_in}
use Rattle.track_index.specs.Listed.{is_listed}

differs : (object listed : ℕ) → (listed == object) ≡ false → (object == listed) ≡ false
differs object listed is = grind (arith, nat_tests)

never : (object listed : ℕ) → (listed == object) ≡ true → (object == listed) ≡ false → true ≡ false
never object listed is not = grind (arith, nat_tests)

-- an object that has a place is listed, and another is not
pub is_listed-index_in : (objects : List ℕ) (object : ℕ) → is_some (index_in objects object) ≡ is_listed object objects
is_listed-index_in objects object = elim (find_cases (λ i. slice_index objects i == object) (range_with_len 0 (length objects))) [
  | inl none ↦
      rw (none.1) (sym (list_any-none (λ listed. object == listed) objects (λ z inside.
      let below : inside.0 < length objects = inside.1 in
      let at : get_or objects inside.0 z ≡ z = inside.2 in
      let other : (get_or objects inside.0 0 == object) ≡ false =
      find_in_range-all (λ i. slice_index objects i == object) 0 (length objects) none.1 inside.0 (omega arith) (omega arith) in
      ap (λ listed. object == listed) (sym at ∙ get_or_default objects inside.0 z 0 below) ∙ differs object _ other)))
  | inr found ↦
      let within : found.0 < length objects = let bounds = member_of_range 0 (length objects) found.0 found.1 in omega arith in
      rw (found.3) (elim (cases_Bool (is_listed object objects)) [
        | inl listed ↦ sym listed
        | inr not ↦ absurd (let wrong : true ≡ false = never object (get_or objects found.0 0) found.2
            (none_from_list_any (λ listed. object == listed) objects (get_or objects found.0 0) not
            (Contains-get_or objects found.0 0 within)) in cc)
      ])
]
