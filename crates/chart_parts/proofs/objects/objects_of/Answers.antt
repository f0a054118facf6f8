use Rattle.std.proofs.Common.{◌++◌, ◌∷◌, ◌∙◌, List, [], get_or, ap, sym, arith, pos, rules}
use Rattle.std.proofs.lemmas.List.{append_assoc, append-nil}
use Rattle.list_laws.proofs.PartLemmas.{IsStrictlySortedBy-drop}
use Rattle.track_types.specs.declared.row.Row.{Row}
use Rattle.track_types.specs.Row.{row_order}
use Rattle.chart_parts.proofs.ObjectLemmas.{no_objects, objects_of-first}
use Rattle.chart_parts.proofs.objects.objects_of.Goals as goal

pub loop-left-preserved : goal.loop-left-preserved
loop-left-preserved c =
    let left : List Row = c.loop-left.left.now in
    let none : Row = record { object = 0; instant = pos 0; cell = record { x = pos 0; y = pos 0 } } in
    rw (c.after_object-left.ensures, c.in_ok-push.ensures.items) record {
      so_far = append_assoc c.loop-left.objects.items ((get_or left 0 none).object ∷ []) _
          ∙ ap (λ after. c.loop-left.objects.items ++ after)
          (sym (objects_of-first left none (omega arith) c.loop-left.invariant.ascending))
          ∙ c.loop-left.invariant.so_far;
      short = search rules;
      ascending = IsStrictlySortedBy-drop row_order _ left c.loop-left.invariant.ascending;
    }

pub returns-clause-ok : goal.returns-clause-ok
returns-clause-ok c =
    sym (append-nil c.loop-left.objects.items)
    ∙ ap (λ after. c.loop-left.objects.items ++ after) (sym (no_objects c.loop-left.left.now (omega arith)))
    ∙ c.loop-left.invariant.so_far
