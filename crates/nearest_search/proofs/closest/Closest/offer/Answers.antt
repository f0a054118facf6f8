use Rattle.std.proofs.Common.{◌≡◌, ◌≤◌, false, length, take, ap, sym, subst, ◌∙◌, arith}
use Rattle.std.specs.List.{list_any}
use Rattle.std.specs.Ordering.{eq_by_cmp, is_lt}
use Rattle.std.proofs.lemmas.List.Elements.{recursion_from_All}
use Rattle.list_laws.specs.Ordered.{insert_in_order}
use Rattle.track_types.specs.ByFilter.{near_order}
use Rattle.nearest_search.specs.Kept.{kept_nears, ClosestView}
use Rattle.nearest_search.proofs.KeptLemmas.{all-before, at-most-none, kept-full, kept-none, kept-popped, kept-room, rank_order}
use Rattle.std.specs.BTreeMap.{insert_entry}
use Rattle.nearest_search.specs.declared.closest.Closest.TheInside.{Inside}
use Rattle.nearest_search.proofs.closest.Closest.offer.Goals as goal
use Rattle.nearest_search.proofs.closest.Closest.offer.Goals.{in_default-via-in-Some+else-is_lt, in_default-via-in_default, then-len-self+in-Some, else-len-self}

pub returns-in_default-clause-nears : goal.returns-in_default-clause-nears
returns-in_default-clause-nears c =
    let entries = c.self.inside.kept.entries in
    let apart : list_any (eq_by_cmp near_order c.args.near) (kept_nears entries) ≡ false =
    ap (λ (v : ClosestView). list_any (eq_by_cmp near_order c.args.near) v.nears) c.self.view_is ∙ c.requires.apart in
    let full : c.self.inside.wanted ≤ length entries = omega (arith, c.if-len-self.true, c.len.ensures.len) in
    subst (λ (v : ClosestView). v.nears ≡ take v.wanted (insert_in_order near_order c.args.near v.nears)) c.self.view_is
    (elim c.in_default.branch [
      | in_default-via-in-Some+else-is_lt w ↦
          kept-full c.self.inside.wanted c.args.near entries full c.self.invariant.few
          (all-before c.args.near w.in-Some.last.now entries (ap is_lt (sym w.cmp.ensures) ∙ sym w.is_lt.ensures ∙ w.if-is_lt.false)
          (recursion_from_All _ _ w.in-Some.ensures.all_up_to) apart)
      | in_default-via-in_default w ↦ kept-none c.self.inside.wanted c.args.near entries full (at-most-none (length entries) (λ low. w.in_default.ensures.variant.1 low))
    ])

pub returns-clause-nears : goal.returns-clause-nears
returns-clause-nears c =
    let entries = c.self.inside.kept.entries in
    let apart : list_any (eq_by_cmp near_order c.args.near) (kept_nears entries) ≡ false =
    ap (λ (v : ClosestView). list_any (eq_by_cmp near_order c.args.near) v.nears) c.self.view_is ∙ c.requires.apart in
    subst (λ (v : ClosestView). kept_nears c.insert.new.self.entries ≡ take v.wanted (insert_in_order near_order c.args.near v.nears))
    c.self.view_is (elim c.if-len-self.branch [
      | then-len-self+in-Some w ↦
          ap kept_nears c.in_ok-insert.ensures.entries
          ∙ ap (λ (i : Inside). kept_nears (insert_entry rank_order i.kept.entries (c.args.near.dist2, c.args.near.object) c.args.near.cell)) w.self-inside-is
          ∙ (let full : c.self.inside.wanted ≤ length entries = omega (arith, w.if-len-self.true, c.len.ensures.len) in
          kept-popped c.self.inside.wanted c.args.near entries full c.self.invariant.few w.pop_last.new.self.entries w.pop_last.result w.in-Some.last.now w.in-Some.field-0-1.now w.pop_last.ensures.removal w.pop_last.ensures.variant.1 w.in-Some.ensures.last (ap is_lt (sym w.cmp.ensures) ∙ sym w.is_lt.ensures ∙ w.if-is_lt.true) apart)
      | else-len-self w ↦
          ap kept_nears c.in_ok-insert.ensures.entries
          ∙ ap (λ (i : Inside). kept_nears (insert_entry rank_order i.kept.entries (c.args.near.dist2, c.args.near.object) c.args.near.cell)) w.self-inside-is
          ∙ kept-room c.self.inside.wanted c.args.near entries (omega (arith, w.if-len-self.false, c.len.ensures.len)) apart
    ])
