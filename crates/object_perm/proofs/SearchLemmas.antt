-- The search for the place of a value: from the value along the permutation to a shortcut, and from its target on.
use Rattle.std.proofs.Common.{◌≡◌, ◌≢◌, ℕ, zero, suc, ◌+◌, ◌-◌, ◌*◌, ◌<◌, ◌≤◌, true, List, length, get_or, Option, None, Some, is_some, ◌⊎◌, inl, inr, ap, sym, ◌∙◌, arith, subst}
use Rattle.std.proofs.lemmas.Bool.{cases_eq, cases_lt, cases_order}
use Rattle.object_perm.specs.Permutation.{PermutesPlaces}
use Rattle.object_perm.specs.Walk.{along}
use Rattle.object_perm.specs.Shortcuts.{LeadsTo, LeadBack, MeetsShortcut, HasShortcuts, has_shortcut}
use Rattle.object_perm.proofs.WalkLemmas.{along-zero, along-split, along_within, along_apart}

-- a walk that has not come to its value makes a move more
pub beyond-more : (values : List ℕ) (from v moves next : ℕ) → along values (moves + 1) from ≡ next → next ≢ v →
    ((more : ℕ) → 1 ≤ more → along values more from ≡ v → moves < more) →
    (more : ℕ) → 1 ≤ more → along values more from ≡ v → moves + 1 < more
beyond-more values from v moves next path other beyond more some reaches =
    let past : moves < more = beyond more some reaches in
    elim (cases_eq more (moves + 1)) [
      | inl e ↦ let there = ap (λ n. along values n from) e in absurd (other (sym path ∙ sym there ∙ reaches))
      | inr apart ↦ omega arith
    ]

-- a place without a shortcut is passed
pub passed-more : (values : List ℕ) (shortcuts : List (Option ℕ)) (v moves place : ℕ) → along values moves v ≡ place →
    get_or shortcuts place None ≡ None →
    ((fewer : ℕ) → fewer < moves → get_or shortcuts (along values fewer v) None ≡ None) →
    (fewer : ℕ) → fewer < moves + 1 → get_or shortcuts (along values fewer v) None ≡ None
passed-more values shortcuts v moves place path none passed fewer below =
    elim (cases_eq fewer moves) [
      | inl e ↦ let there = ap (λ n. along values n v) e in ap (λ x. get_or shortcuts x None) (there ∙ path) ∙ none
      | inr apart ↦ passed fewer (omega arith)
    ]

-- a place that has a shortcut is not one that has none
pub no_shortcut : (shortcuts : List (Option ℕ)) (place : ℕ) → get_or shortcuts place None ≡ None →
    has_shortcut shortcuts place ≡ true → ⊥
no_shortcut shortcuts place none has = let is_none = ap is_some none in cc

-- a walk that has met neither a shortcut nor its value has made fewer than sixteen moves
pub few_moves : (values : List ℕ) (shortcuts : List (Option ℕ)) (v moves place : ℕ) → MeetsShortcut values shortcuts v →
    along values moves v ≡ place → get_or shortcuts place None ≡ None →
    ((fewer : ℕ) → fewer < moves → get_or shortcuts (along values fewer v) None ≡ None) →
    ((more : ℕ) → 1 ≤ more → along values more v ≡ v → moves < more) → moves < 16
few_moves values shortcuts v moves place meets path none passed beyond =
    let few = meets.few in
    elim meets.end [
      | inl self ↦ let past = beyond meets.moves meets.some self in omega arith
      | inr found ↦ elim (cases_order meets.moves moves) [
        | inl e ↦ let there = ap (λ n. along values n v) e in
            absurd (no_shortcut shortcuts (along values meets.moves v)
            (ap (λ x. get_or shortcuts x None) (there ∙ path) ∙ none) found)
        | inr other ↦ elim other [
          | inl fewer ↦ absurd (no_shortcut shortcuts (along values meets.moves v) (passed meets.moves fewer) found)
          | inr more ↦ omega arith
        ]
      ]
    ]

-- what a shortcut leads to: a place from which few moves lead to the value, all in all at most 33 reads
pub record IsTarget (values : List ℕ) (v moves target : ℕ) : Type 0 where
  pub near : LeadsTo values target v
  pub cost : 2 * moves + 2 + near.moves ≤ 33

-- one number is another and some more, or the other is it and a rest
cases_sum : (m n : ℕ) → ((rest : ℕ) × (1 ≤ rest) × (n + rest ≡ m)) ⊎ ((rest : ℕ) × (m + rest ≡ n))
cases_sum m n =
    elim (cases_lt n m) [
      | inl less ↦ inl (m - n, omega arith, omega arith)
      | inr not_less ↦ inr (n - m, omega arith)
    ]

-- the shortcut that a walk meets first leads to a place before the value
pub first_target : (values : List ℕ) (shortcuts : List (Option ℕ)) (v moves place target : ℕ) →
    PermutesPlaces values → LeadBack values shortcuts → v < length values → place < length values →
    along values moves v ≡ place → get_or shortcuts place None ≡ Some target →
    ((fewer : ℕ) → fewer < moves → get_or shortcuts (along values fewer v) None ≡ None) → IsTarget values v moves target
first_target values shortcuts v zero place target permutes lead v_below place_below path has passed =
    let back = lead.back place target place_below has in
    let few = back.few in
    record {
      near = record {
        moves = back.moves;
        some = back.some;
        few = back.few;
        path = back.path ∙ sym path
            ∙ along-zero values v;
      };
      cost = omega arith;
    }
first_target values shortcuts v (suc moves) place target permutes lead v_below place_below path has passed =
    let back = lead.back place target place_below has in
    let few = back.few in
    let below : target < length values = lead.within place target place_below has in
    let stored = lead.stored place target place_below has in
    let unmet : (fewer : ℕ) → fewer < suc moves → target ≡ along values fewer v → ⊥ =
    λ fewer less e. no_shortcut shortcuts target (ap (λ x. get_or shortcuts x None) e ∙ passed fewer less) stored in
    elim (cases_sum back.moves (suc moves)) [
      | inl longer ↦
          let rest : along values longer.0 target ≡ v =
          along_apart values (suc moves) (along values longer.0 target) v permutes
          (along_within values longer.0 target permutes below) v_below
          (sym (along-split values (suc moves) longer.0 back.moves target longer.2) ∙ back.path ∙ sym path) in
          let sum = longer.2 in
          record {
            near = record { moves = longer.0; some = longer.1; few = omega arith; path = rest };
            cost = omega arith;
          }
      | inr shorter ↦
          absurd (unmet shorter.0 (let sum = shorter.1 in let some = back.some in omega arith)
          (along_apart values back.moves target (along values shorter.0 v) permutes below
          (along_within values shorter.0 v permutes v_below)
          (back.path ∙ sym path ∙ along-split values back.moves shorter.0 (suc moves) v shorter.1)))
    ]

-- what is indexed under one name is so under an equal one
pub indexed-same : (values values' : List ℕ) (shortcuts : List (Option ℕ)) → values ≡ values' →
    HasShortcuts values shortcuts → HasShortcuts values' shortcuts
indexed-same values values' shortcuts same indexed =
    let P : List ℕ → Type 0 = λ xs. HasShortcuts xs shortcuts in subst P same indexed
