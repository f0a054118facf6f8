use Rattle.std.proofs.Common.{◌≡◌, ◌∙◌, [], ◌∷◌, ◌++◌, ap, sym, arith}
use Rattle.std.proofs.lemmas.Bool.Decides.{nat_tests}
use Rattle.std.proofs.lemmas.List.{length-append}
use Rattle.track_types.specs.declared.row.Row.{Row}
use Rattle.gridding.specs.Survey.{is_object_of, last_object}
use Rattle.gridding.proofs.ObjectCountLemmas.{IsAscending-front, object_count-le, object_count-more}
use Rattle.gridding.proofs.SurveyLemmas.{last_object-more}
use Rattle.gridding.proofs.survey.Survey.with.Goals as goal

pub returns : goal.returns
returns c = λ rows before.
    let row : Row = c.args.row.now in
    record {
      objects = λ up few.
          let shorter = length-append rows (row ∷ []) in
          let first = IsAscending-front rows (row ∷ []) up in
          let counted = before.objects first (omega arith) in
          let again : c.is_object_of-again.result ≡ is_object_of (last_object rows) row.object =
          c.is_object_of-again.ensures ∙ ap (λ last. is_object_of last row.object) before.last in
          grind (
            arith,
            nat_tests,
            c.saturating_add.ensures,
            c.from.ensures,
            again,
            counted,
            object_count-more rows row up,
            object_count-le rows first,
            object_count-le (rows ++ row ∷ []) up,
          );
      last = sym (last_object-more rows row);
      extents = c.with.ensures rows before.extents;
    }
