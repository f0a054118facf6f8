-- The stack of parts that wait.
use Rattle.std.proofs.Common.{◌≡◌, ℕ, max, ◌+◌, ◌<◌, ◌≤◌, List, [], ◌∷◌, ◌++◌, length, get_or, reverse, take, refl, ap, sym, subst, ◌∙◌, add-one, arith, inl, inr}
use Rattle.std.specs.Prelude.{slice_index, IsSome, Option, None, ◌↔◌, ◌-◌}
use Rattle.std.proofs.lemmas.Bool.{cases_lt}
use Rattle.std.proofs.lemmas.List.{length-append, get_or_append_left, reverse-append}
use Rattle.std.proofs.Math.Seq.{drop-cons, get_or-append_seam}
use Rattle.rule_store.specs.View.{RulesView, symbols_in}
use Rattle.rule_store.specs.Expansion.{depth_in, depth_of}
use Rattle.rule_store.specs.Entry.{entry_of}
use Rattle.rule_store.specs.Flaws.{left_of, right_of}
use Rattle.rule_store.specs.Log.{log_of}
use Rattle.rule_store.specs.declared.entry.Entry.{Entry}
use Rattle.rule_store.specs.declared.log_view.LogView.{LogView}
use Rattle.log_cursor.specs.Pending.{AreRoomy, IsRoomy, IsTaken, log_from, pending_of}
use Rattle.log_cursor.proofs.RuleLemmas.{depth_of-deepest, depth_of-parts}

module _ (rules : RulesView) (stack : List ℕ) (symbol : ℕ) where
  -- one more on top
  pub AreRoomy-push : AreRoomy rules stack → IsRoomy rules (length stack) symbol → AreRoomy rules (stack ++ symbol ∷ [])
  AreRoomy-push roomy one = record {
    each = λ place within. elim (cases_lt place (length stack)) [
      | inl low ↦ subst (IsRoomy rules place) (sym (get_or_append_left stack (symbol ∷ []) 0 place low)) (roomy.each place low)
      | inr high ↦
          let here : length stack ≡ place = omega (arith, length-append stack (symbol ∷ [])) in
          let top : get_or (stack ++ symbol ∷ []) place 0 ≡ symbol =
          ap (λ k. get_or (stack ++ symbol ∷ []) k 0) (sym here) ∙ get_or-append_seam stack symbol [] 0 in
          subst (IsRoomy rules place) (sym top) (subst (λ k. IsRoomy rules k symbol) here one)
    ];
  }

  -- the one on top
  pub AreRoomy-top : AreRoomy rules (stack ++ symbol ∷ []) → IsRoomy rules (length stack) symbol
  AreRoomy-top roomy =
      subst (IsRoomy rules (length stack)) (get_or-append_seam stack symbol [] 0)
      (roomy.each (length stack) (omega (arith, length-append stack (symbol ∷ []))))

-- the one on top comes first
pub reverse-push : (stack : List ℕ) (symbol : ℕ) (rest : List ℕ) →
    reverse (stack ++ symbol ∷ []) ++ rest ≡ symbol ∷ reverse stack ++ rest
reverse-push stack symbol rest = ap (λ symbols. symbols ++ rest) (reverse-append stack (symbol ∷ []))

-- the entry of a symbol is its own
pub own_symbol : (rules : RulesView) (symbol : ℕ) (entry : Entry) → entry ≡ entry_of rules symbol → entry.symbol ≡ symbol
unfolding entry_of
own_symbol rules symbol entry is = ap (λ (e : Entry). e.symbol) is

pub own_entry : (rules : RulesView) (symbol : ℕ) (entry : Entry) → entry ≡ entry_of rules symbol →
    entry ≡ entry_of rules entry.symbol
own_entry rules symbol entry is = is ∙ ap (entry_of rules) (sym (own_symbol rules symbol entry is))

module _ (view : LogView) (next : ℕ) (entry : Entry) where
  -- the part on top was taken off
  pub IsTaken-top : (stack rest : List ℕ) (symbol : ℕ) → stack ≡ rest ++ symbol ∷ [] → AreRoomy view.rules.now stack →
      entry ≡ entry_of view.rules.now symbol → IsTaken (pending_of view next stack) (pending_of view next rest) entry
  IsTaken-top stack rest symbol top roomy is =
      let own = own_symbol view.rules.now symbol entry is in
      record {
        is = own_entry view.rules.now symbol entry is;
        symbols = rw (top, own) (reverse-push rest symbol (log_from view next));
        roomy = rw own (AreRoomy-top view.rules.now rest symbol (rw top at roomy));
      }

  -- no part waited, and the next symbol of the log was read
  pub IsTaken-read : (stack rest : List ℕ) → stack ≡ [] → rest ≡ [] → next < length (log_of view) →
      entry ≡ entry_of view.rules.now (slice_index (log_of view) next) →
      slice_index (log_of view) next < symbols_in view.rules.now →
      IsTaken (pending_of view next stack) (pending_of view (next + 1) rest) entry
  IsTaken-read stack rest none still within is known =
      let symbol = slice_index (log_of view) next in
      let own = own_symbol view.rules.now symbol entry is in
      let read : log_from view next ≡ symbol ∷ log_from view (next + 1) =
      rw add-one (drop-cons (log_of view) next 0 within) in
      let deep = depth_of-deepest view.rules.now entry.symbol in
      let empty : length rest ≡ 0 = ap length still in
      record {
        is = own_entry view.rules.now symbol entry is;
        symbols = rw (none, still, own) read;
        roomy = record { known = omega (arith, own, known); shallow = omega (arith, empty, deep) };
      }

-- a rule that was taken off is opened: its parts are below it
pub record IsOpening (rules : RulesView) (stack : List ℕ) (rule : ℕ) : Type 0 where
  pub is_rule : length rules.alphabet ≤ rule
  pub roomy : IsRoomy rules (length stack) rule
  pub left_below : left_of rules rule < rule
  pub right_below : right_of rules rule < rule

-- the stack with both parts on it, the left one on top
abbrev pub opened_stack : RulesView → List ℕ → ℕ → List ℕ
opened_stack rules stack rule = (stack ++ right_of rules rule ∷ []) ++ left_of rules rule ∷ []

module _ {rules : RulesView} {stack : List ℕ} {rule : ℕ} (opening : IsOpening rules stack rule) where
  deeper :
      depth_of rules rule ≡ 1 + max (depth_of rules (left_of rules rule)) (depth_of rules (right_of rules rule))
  deeper = depth_of-parts rules rule opening.is_rule opening.roomy.known opening.left_below opening.right_below

  -- there is room for both
  pub opened_stack-fits : length stack + 2 ≤ depth_in rules + 1
  opened_stack-fits = omega (arith, deeper, opening.roomy.shallow)

  pub opened_stack-roomy : AreRoomy rules stack → AreRoomy rules (opened_stack rules stack rule)
  opened_stack-roomy waiting =
      let one : length (stack ++ right_of rules rule ∷ []) ≡ length stack + 1 =
      length-append stack (right_of rules rule ∷ []) in
      AreRoomy-push rules (stack ++ right_of rules rule ∷ []) (left_of rules rule)
      (AreRoomy-push rules stack (right_of rules rule) waiting (record {
        known = omega (arith, opening.right_below, opening.roomy.known);
        shallow = omega (arith, deeper, opening.roomy.shallow);
      }))
      (record {
        known = omega (arith, opening.left_below, opening.roomy.known);
        shallow = omega (arith, one, deeper, opening.roomy.shallow);
      })

pub reverse-opened : (rules : RulesView) (stack : List ℕ) (rule : ℕ) (rest : List ℕ) →
    reverse (opened_stack rules stack rule) ++ rest ≡ left_of rules rule ∷ right_of rules rule ∷ reverse stack ++ rest
reverse-opened rules stack rule rest =
    reverse-push (stack ++ right_of rules rule ∷ []) (left_of rules rule) rest
    ∙ ap (λ symbols. left_of rules rule ∷ symbols) (reverse-push stack (right_of rules rule) rest)

-- where nothing is taken off, nothing waits
abbrev nothing : Option ℕ
nothing = None

pub no_part : (stack : List ℕ) → (IsSome nothing ↔ (0 < length stack)) → stack ≡ []
no_part [] found = refl
no_part (symbol ∷ stack) found = let some : IsSome nothing = found.1 (omega arith) in absurd (cc)

pub no_part_left : (stack rest : List ℕ) → stack ≡ [] → rest ≡ take (length stack - 1) stack → rest ≡ []
no_part_left stack rest none left = left ∙ ap (λ s. take (length s - 1) s) none
