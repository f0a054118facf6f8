use Rattle.std.proofs.Common.{sym, ◌∙◌}
use Rattle.track_types.specs.declared.limit.TheConstants.{MAX_HEIGHT}
use Rattle.k2_tree.proofs.MortonLemmas.{morton_row-half}
use Rattle.k2_tree.proofs.morton_code.row_of.Goals as goal

pub returns-clause-value : goal.returns-clause-value
returns-clause-value c = c.column_of.ensures.value ∙ sym (morton_row-half MAX_HEIGHT c.args.code)
