use Rattle.std.proofs.Common.{◌≡◌, ◌+◌, ◌*◌, ◌%◌, ◌<◌, Some, None, length, get_or, ap, sym, ◌∙◌, arith}
use Rattle.std.specs.Int.{bit_at}
use Rattle.std.proofs.lemmas.Bool.{eqb-true, eqb-false}
use Rattle.std.proofs.lemmas.Option.{get_or_from_slice_get}
use Rattle.object_perm.specs.Marks.{target_index}
use Rattle.object_perm.proofs.PackLemmas.{length-shortcuts_of, get_or-group, index_within, shortcut_in-marked, shortcut_in-unmarked}
use Rattle.object_perm.proofs.shortcuts.Shortcuts.get.Given.{Over}
use Rattle.object_perm.proofs.shortcuts.Shortcuts.get.Goals as goal
use Rattle.object_perm.proofs.shortcuts.Shortcuts.get.Goals.{After-at-marks, After-count_before}

-- the place is one of a group
in_group : (g : Over) (c : After-at-marks g) → c.args.place < 32 * length c.self.inside.groups
in_group g c =
    omega (
      arith,
      length-shortcuts_of c.self.inside.groups c.self.inside.targets,
      ap length c.self.view_is,
      c.requires,
    )

-- the group marks it, so that there is a target
is_marked : (g : Over) (c : After-count_before g) → c.args.place < 32 * length c.self.inside.groups
    → (bit_at c.at-marks.result.0 (c.args.place % 32) ≡ 1)
    × (target_index c.at-marks.result (c.args.place % 32) < length c.self.inside.targets)
is_marked g c within =
    let marked = eqb-true (bit_at c.at-marks.result.0 (c.args.place % 32)) 1
    (sym c.is_marked.ensures ∙ c.if-not-is_marked.false) in (
      marked,
      index_within c.self.inside.groups c.self.inside.targets c.args.place c.at-marks.result
          c.self.invariant.each within c.at-marks.ensures.value marked,
    )

pub at-marks-requires : goal.at-marks-requires
at-marks-requires g c =
    let long = length-shortcuts_of c.self.inside.groups c.self.inside.targets in
    let same = ap length c.self.view_is in
    omega (arith, long, same, c.requires)

pub returns-then-not-is_marked-clause-value : goal.returns-then-not-is_marked-clause-value
returns-then-not-is_marked-clause-value g c =
    let targets = c.self.inside.targets in
    let place = c.args.place in
    let group = c.at-marks.result in
    let unmarked = eqb-false (bit_at group.0 (place % 32)) 1 (sym c.is_marked.ensures ∙ c.if-not-is_marked.true) in
    sym (ap (λ xs. get_or xs place None) (sym c.self.view_is)
    ∙ get_or-group c.self.inside.groups targets place group
    (in_group g (goal.at.returns-then-not-is_marked-clause-value g c).After-at-marks) c.at-marks.ensures.value
    ∙ shortcut_in-unmarked group targets (place % 32) unmarked)

pub overflow_add-target : goal.overflow_add-target
overflow_add-target g c =
    let within = in_group g (goal.at.overflow_add-target g c).After-at-marks in
    let its = is_marked g (goal.at.overflow_add-target g c).After-count_before within in
    omega (arith, its.1, c.count_before.ensures, c.self.invariant.few)

pub at-requires : goal.at-requires
at-requires g c =
    let within = in_group g (goal.at.at-requires g c).After-at-marks in
    let its = is_marked g (goal.at.at-requires g c).After-count_before within in
    omega (arith, its.1, c.count_before.ensures)

pub returns-clause-value : goal.returns-clause-value
returns-clause-value g c =
    let targets = c.self.inside.targets in
    let place = c.args.place in
    let group = c.at-marks.result in
    let within = in_group g (goal.at.returns-clause-value g c).After-at-marks in
    let its = is_marked g (goal.at.returns-clause-value g c).After-count_before within in
    let count : group.1 + c.count_before.result ≡ target_index group (place % 32) =
    ap (λ n. group.1 + n) c.count_before.ensures in
    let at = group.1 + c.count_before.result in
    let found : get_or targets (target_index group (place % 32)) 0 ≡ c.at.result =
    ap (λ i. get_or targets i 0) (sym count) ∙ get_or_from_slice_get targets at c.at.result 0 c.at.ensures.value in
    sym (ap (λ xs. get_or xs place None) (sym c.self.view_is)
    ∙ get_or-group c.self.inside.groups targets place group within c.at-marks.ensures.value
    ∙ shortcut_in-marked group targets (place % 32) its.0 ∙ ap Some found)
