-- From cycle to cycle, until all places were seen.
use Rattle.std.proofs.Common.{◌≡◌, ℕ, ◌+◌, ◌<◌, Bool, false, List, length, get_or, Option, None, is_some, inl, inr, ap, sym, ◌∙◌, arith, subst}
use Rattle.std.proofs.lemmas.Bool.{cases_eq, cases_lt}
use Rattle.std.proofs.lemmas.List.{get_or_past}
use Rattle.object_perm.specs.Walk.{along}
use Rattle.object_perm.specs.Shortcuts.{LeadBack, HoldsShortcuts}
use Rattle.object_perm.specs.Settled.{IsSeen, KeepsMarks, IsSettled}

-- all is seen
pub settled-all : (values : List ℕ) (seen : List Bool) (shortcuts : List (Option ℕ)) → IsSettled values seen shortcuts →
    ((place : ℕ) → place < length values → IsSeen seen place) → LeadBack values shortcuts
settled-all values seen shortcuts settled all =
    record {
      covers = omega (arith, settled.same_length);
      within = λ place target below has.
          elim (cases_lt target (length seen)) [
            | inl inside ↦ omega (arith, settled.seen_length)
            | inr past ↦ let is_seen = settled.target place target (all place below) has in
                let is_false = get_or_past seen target false past in absurd (cc)
          ];
      stored = λ place target below has. settled.stored place target (all place below) has;
      back = λ place target below has. settled.back place target (all place below) has;
      ahead = λ place below.
          let meets = settled.ahead place (all place below) in
          record {
            moves = meets.moves;
            some = meets.some;
            few = meets.few;
            end = elim meets.end [ inl self ↦ inl self | inr found ↦ inr found.1 ];
          };
    }

-- what is settled under one name is so under an equal one
pub settled-same : (values : List ℕ) (seen seen' : List Bool) (shortcuts shortcuts' : List (Option ℕ)) →
    seen ≡ seen' → shortcuts ≡ shortcuts' → IsSettled values seen' shortcuts' → IsSettled values seen shortcuts
settled-same values seen seen' shortcuts shortcuts' same_seen same_shortcuts settled =
    let P : List Bool → Type 0 = λ xs. IsSettled values xs shortcuts' in
    let Q : List (Option ℕ) → Type 0 = λ xs. IsSettled values seen xs in
    subst Q (sym same_shortcuts) (subst P (sym same_seen) settled)

-- once the cycle of a place was marked, all places up to it are seen
pub behind-more : (seen seen' : List Bool) (leader : ℕ) → KeepsMarks seen seen' → IsSeen seen' leader →
    ((place : ℕ) → place < leader → IsSeen seen place) → (place : ℕ) → place < leader + 1 → IsSeen seen' place
behind-more seen seen' leader kept marked behind place below =
    elim (cases_eq place leader) [
      | inl e ↦ let P : ℕ → Type 0 = λ x. IsSeen seen' x in subst P (sym e) marked
      | inr other ↦ kept place (behind place (omega arith))
    ]

-- shortcuts that are held in another list lead back as they did
pub lead-held : (values values' : List ℕ) (shortcuts places held : List (Option ℕ)) → values ≡ values' →
    places ≡ shortcuts →
    LeadBack values shortcuts → HoldsShortcuts places held → LeadBack values' held
lead-held values values' shortcuts places held same_values same_places lead holds =
    let P : List ℕ → Type 0 = λ xs. LeadBack xs held in
    subst P same_values (record {
      covers = let covers = lead.covers in omega (arith, covers, holds.covers, ap length same_places);
      within = λ place target below has. lead.within place target below (read place ∙ has);
      stored = λ place target below has. ap is_some (sym (read target))
          ∙ lead.stored place target below (read place ∙ has);
      back = λ place target below has. lead.back place target below (read place ∙ has);
      ahead = λ place below.
          let meets = lead.ahead place below in
          record {
            moves = meets.moves;
            some = meets.some;
            few = meets.few;
            end = elim meets.end [
              | inl self ↦ inl self
              | inr found ↦ inr (ap is_some (sym (read (along values meets.moves place))) ∙ found)
            ];
          };
    })
  where
    read : (place : ℕ) → get_or shortcuts place None ≡ get_or held place None
    read place = ap (λ xs. get_or xs place None) (sym same_places) ∙ sym (holds.same place)
