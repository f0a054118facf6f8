use Rattle.std.proofs.Common.{◌≡◌, ◌*◌, ◌%◌, ap, ◌∙◌, arith, rules}
use Rattle.std.proofs.lemmas.Nat.{one_shl}
use Rattle.track_types.specs.declared.limit.TheConstants.{MAX_HEIGHT}
use Rattle.k2_tree.specs.Morton.{cell_of, morton_column, morton_row}
use Rattle.k2_tree.proofs.ColumnLemmas.{lowest_digits}
use Rattle.k2_tree.proofs.morton_code.cell_at.Goals as goal

pub returns : goal.returns
unfolding cell_of
returns c =
    let height = c.args.height in
    let code = c.args.code in
    let power = one_shl (2 * height) 64 (omega (arith, c.requires.grid.limit)) in
    let digits = lowest_digits height code c.requires.grid.limit in
    let column : c.column_of.result ≡ morton_column height code =
    c.column_of.ensures.value ∙ ap (λ p. morton_column MAX_HEIGHT (code % p)) power ∙ digits.1 in
    let row : c.row_of.result ≡ morton_row height code =
    c.row_of.ensures.value ∙ ap (λ p. morton_row MAX_HEIGHT (code % p)) power ∙ digits.0 in
    search (rules, column, row)
