use Rattle.std.proofs.Common.{◌≡◌, ap, ◌∙◌}
use Rattle.k2_tree.specs.Tree.{codes_in}
use Rattle.k2_tree.specs.Widths.{widths_of}
use Rattle.snapshots.specs.View.{widths_in}
use Rattle.outline_parts.proofs.ScatterLemmas.{by-inverse}
use Rattle.outline_parts.proofs.telling.codes_by_rank.Goals as goal

pub returns : goal.returns
returns c =
    let period = c.args.period.now in
    let frame = c.args.at.frame in
    let codes = c.in_ok-codes.codes.items in
    let told = codes_in (widths_in frame) period.tree in
    let leaves : c.as_slice.result.now ≡ told = c.as_slice.ensures.value ∙ c.in_ok-leaves.ensures
    ∙ ap (λ wide. codes_in (widths_of frame.height wide) period.tree) c.wide_levels.ensures in
    let each = rw (leaves, c.as_slice-2.ensures) at c.in_ok-codes.ensures.each in
    let long = rw c.as_slice-2.ensures at c.in_ok-codes.ensures.long in
    record {
      long = long;
      each = by-inverse period.perm told codes period.lasts c.requires.sound.permutes long each;
    }
