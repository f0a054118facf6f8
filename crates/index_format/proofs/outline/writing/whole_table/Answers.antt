use Rattle.std.proofs.Common.{length, refl, sym, ap, ◌∙◌}
use Rattle.index_format.specs.OutlineFile.{frame_rules}
use Rattle.index_format.proofs.outline.writing.whole_table.Goals as goal

pub push_rules-requires-clause-view : goal.push_rules-requires-clause-view
push_rules-requires-clause-view c =
    let outline = c.args.outline.now in
    let view = frame_rules outline.frame outline.alphabet outline.rules in (
      view,
      record {
        are = sym c.as_slice.ensures;
        sound = c.requires.near_rules;
        known = c.in_ok-table.ensures.entries view (sym c.as_slice-values.ensures) refl refl;
        many = c.in_ok-table.ensures.many ∙ ap length c.as_slice-values.ensures;
      },
    )
