use Rattle.std.proofs.Common.{◌≡◌, ℕ, ◌<◌, Bool, false, length, Option, Vec, Global, ap, arith, sym, ◌∙◌}
use Rattle.std.proofs.lemmas.List.{get_or_default, with_items_is}
use Rattle.object_perm.specs.Settled.{IsSeen, KeepsMarks}
use Rattle.object_perm.proofs.SettledLemmas.{settled-all, settled-same, behind-more}
use Rattle.object_perm.proofs.cycles.find_shortcuts.Goals as goal
use Rattle.object_perm.proofs.cycles.find_shortcuts.Goals.{then-not-index, else-not-index}

pub loop-leader-preserved : goal.loop-leader-preserved
loop-leader-preserved c =
    let before = c.loop-leader.invariant in
    elim c.if-not-index.branch [
      | then-not-index w ↦
          let marked = w.mark_cycle.ensures in
          let settled = marked.settled in
          let seen_length : length w.mark_cycle.new.seen ≡ c.loop-leader.seen.len =
          settled.seen_length ∙ sym before.settled.seen_length ∙ sym c.loop-leader.seen.ok.0 in
          let same_length : length w.mark_cycle.new.shortcuts ≡ c.loop-leader.shortcuts.len =
          settled.same_length ∙ sym before.settled.same_length ∙ sym c.loop-leader.shortcuts.ok.0 in
          let seen_is : c.if-not-index.seen.items ≡ w.mark_cycle.new.seen =
          ap (λ (v : Vec Bool Global). v.items) w.seen-is
          ∙ with_items_is c.loop-leader.seen w.mark_cycle.new.seen seen_length in
          let shortcuts_is : c.if-not-index.shortcuts.items ≡ w.mark_cycle.new.shortcuts =
          ap (λ (v : Vec (Option ℕ) Global). v.items) w.shortcuts-is
          ∙ with_items_is c.loop-leader.shortcuts w.mark_cycle.new.shortcuts same_length in
          let kept : KeepsMarks c.loop-leader.seen.items w.mark_cycle.new.seen =
          λ place is_seen. marked.kept place (rw w.deref_mut.ensures.value is_seen) in
          record {
            settled = settled-same _ _ _ _ _ seen_is shortcuts_is marked.settled;
            behind = rw seen_is (behind-more _ _ _ kept marked.marked before.behind);
          }
      | else-not-index w ↦
          let seen_is : c.if-not-index.seen.items ≡ c.loop-leader.seen.items =
          ap (λ (v : Vec Bool Global). v.items) w.seen-is in
          let shortcuts_is : c.if-not-index.shortcuts.items ≡ c.loop-leader.shortcuts.items =
          ap (λ (v : Vec (Option ℕ) Global). v.items) w.shortcuts-is in
          let here : IsSeen c.loop-leader.seen.items c.loop-leader.leader =
          let below : c.loop-leader.leader < length c.loop-leader.seen.items =
          omega (arith, before.settled.seen_length, c.loop-leader-test.true) in
          get_or_default c.loop-leader.seen.items c.loop-leader.leader false c.index.result.now below
          ∙ sym c.index.ensures ∙ w.if-not-index.false in
          record {
            settled = settled-same _ _ _ _ _ seen_is shortcuts_is before.settled;
            behind = rw seen_is (behind-more _ _ _ (λ place is_seen. is_seen) here before.behind);
          }
    ]

pub returns-clause-back : goal.returns-clause-back
returns-clause-back c =
    settled-all c.args.values.now c.loop-leader.seen.items c.loop-leader.shortcuts.items c.loop-leader.invariant.settled
    (λ place within. c.loop-leader.invariant.behind place (omega arith))

pub returns-clause-same_length : goal.returns-clause-same_length
returns-clause-same_length c = let settled = c.loop-leader.invariant.settled in settled.same_length
