use Rattle.std.proofs.Common.{◌≡◌, ℕ, ◌+◌, ◌<◌, length, true, false, arith, subst, sym, ◌∙◌, ap}
use Rattle.std.specs.Prelude.{Bool}
use Rattle.rule_store.specs.Entry.{entry_of}
use Rattle.rule_store.specs.Flaws.{is_far}
use Rattle.rule_store.specs.Stored.{entries_of, IsEntryOf}
use Rattle.rule_store.specs.Table.{IsNextRule}
use Rattle.rule_store.specs.View.{RulesView}
use Rattle.rule_store.specs.declared.entry.Entry.{Entry}
use Rattle.rule_store.specs.declared.packed_entry.PackedEntry.{PackedEntry}
use Rattle.rule_store.proofs.FlawLemmas.{box_passes-higher, flawed_rule-left, flawed_rule-right, near_entry, reach_limit-high, rule_flawed-by_entry}
use Rattle.rule_store.proofs.StoredLemmas.{entry_of-rule, is_entry_of-rule}
use Rattle.rule_store.proofs.entry_table.EntryTable.rule_entry.Goals as goal
use Rattle.rule_store.proofs.entry_table.EntryTable.rule_entry.Goals.{After-join-entry}
use Rattle.rule_store.proofs.entry_table.EntryTable.rule_entry.Goals.{then-left-len-via-then-left-len, then-left-len-via-else-left-len+then-right-len}

-- the entries of the rule's two parts, which are below it, and their join
record IsJoined (view : RulesView) (rule : ℕ) (parts : ℕ × ℕ) (left right : PackedEntry) (entry : Entry) : Type 0 where
  pub left_below : parts.0 < length view.alphabet + rule
  pub right_below : parts.1 < length view.alphabet + rule
  pub left_is : IsEntryOf view parts.0 left
  pub right_is : IsEntryOf view parts.1 right
  pub entry_is : entry ≡ entry_of view (length view.alphabet + rule)

joined : (c : After-join-entry) (view : RulesView) (j : ℕ) → IsNextRule view c.args.self.now j (c.args.left, c.args.right) →
    IsJoined view j (c.args.left, c.args.right) c.at-left.result c.at-right.result c.join-entry.result
joined c view j next =
    let left : PackedEntry = c.at-left.result in
    let right : PackedEntry = c.at-right.result in
    let left_within : c.args.left < length (entries_of c.args.self.now.entries) = omega (arith, c.if-left-len.false, c.len.ensures) in
    let right_within : c.args.right < length (entries_of c.args.self.now.entries) =
    omega (arith, c.if-right-len.false, c.len-else-left-len.ensures) in
    let left_below : c.args.left < length view.alphabet + j = omega (arith, left_within, next.many) in
    let right_below : c.args.right < length view.alphabet + j = omega (arith, right_within, next.many) in
    let left_is : IsEntryOf view c.args.left left =
    subst (IsEntryOf view c.args.left) (sym c.at-left.ensures) (next.known.entries.each c.args.left left left_within) in
    let right_is : IsEntryOf view c.args.right right =
    subst (IsEntryOf view c.args.right) (sym c.at-right.ensures) (next.known.entries.each c.args.right right right_within) in
    record {
      left_below = left_below;
      right_below = right_below;
      left_is = left_is;
      right_is = right_is;
      entry_is = entry_of-rule view j (c.args.left, c.args.right) next.within next.is left_below right_below left right left_is right_is
          c.join-entry.result c.len-2.result (omega (arith, c.len-2.ensures, next.many)) c.join-entry.ensures;
    }

-- how the table judges the entry is how the rules do
judged : (c : After-join-entry) (view : RulesView) (j : ℕ) (next : IsNextRule view c.args.self.now j (c.args.left, c.args.right)) (b : Bool) →
    is_far c.args.self.now.height c.args.self.now.period c.join-entry.result ≡ b →
    is_far view.height view.period (entry_of view (length view.alphabet + j)) ≡ b
judged c view j next b is =
    ap (λ h. is_far h view.period (entry_of view (length view.alphabet + j))) (sym next.known.height)
    ∙ ap (λ p. is_far c.args.self.now.height p (entry_of view (length view.alphabet + j))) (sym next.known.period)
    ∙ ap (is_far c.args.self.now.height c.args.self.now.period) (sym (joined c view j next).entry_is) ∙ is

pub returns-then-left-len-clause-judged : goal.returns-then-left-len-clause-judged
returns-then-left-len-clause-judged c = λ view j next.
    elim c.then-left-len.branch [
      | then-left-len-via-then-left-len w ↦
          flawed_rule-left view j c.args.left c.args.right next.is
          (omega (arith, w.if-left-len.true, c.len.ensures, next.many))
      | then-left-len-via-else-left-len+then-right-len w ↦
          flawed_rule-right view j c.args.left c.args.right next.is
          (omega (arith, w.if-right-len.true, w.len-else-left-len.ensures, next.many))
    ]

pub returns-then-is_far-clause-judged : goal.returns-then-is_far-clause-judged
returns-then-is_far-clause-judged c = λ view j next.
    let w = (goal.at.returns-then-is_far-clause-judged c).After-join-entry in
    let at = joined w view j next in
    rule_flawed-by_entry view j c.args.left c.args.right next.is at.left_below at.right_below true
    (judged w view j next true (sym c.is_far.ensures ∙ c.if-is_far.true))

pub pack-requires-clause-near : goal.pack-requires-clause-near
pack-requires-clause-near c =
    let height = c.args.self.now.height in
    let near : is_far height c.args.self.now.period c.join-entry.result ≡ false =
    sym c.is_far.ensures ∙ c.if-is_far.false in
    omega (
      arith,
      (near_entry height c.args.self.now.period c.join-entry.result near).displacement,
      reach_limit-high height c.args.self.now.height_fits,
    )

pub pack-requires-clause-within : goal.pack-requires-clause-within
pack-requires-clause-within c =
    let height = c.args.self.now.height in
    let near : is_far height c.args.self.now.period c.join-entry.result ≡ false =
    sym c.is_far.ensures ∙ c.if-is_far.false in
    box_passes-higher height c.join-entry.result.hull c.args.self.now.height_fits
    (near_entry height c.args.self.now.period c.join-entry.result near).hull

pub returns-clause-judged : goal.returns-clause-judged
returns-clause-judged c = λ view j next.
    let w = (goal.at.returns-clause-judged c).After-join-entry in
    let at = joined w view j next in (
      rule_flawed-by_entry view j c.args.left c.args.right next.is at.left_below at.right_below false
          (judged w view j next false (sym c.is_far.ensures ∙ c.if-is_far.false)),
      is_entry_of-rule view j (c.args.left, c.args.right) next.within next.is at.left_below at.right_below c.at-left.result
          c.at-right.result at.left_is at.right_is c.join-entry.result c.pack.result at.entry_is c.pack.ensures.packed
          (omega (arith, c.pack.ensures.depth, c.max.ensures)),
    )
