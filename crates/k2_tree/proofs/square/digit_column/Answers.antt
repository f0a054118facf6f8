use Rattle.std.proofs.Common.{◌≡◌, ℕ, ◌+◌, ◌*◌, ◌/◌, ◌%◌, ◌^◌, ◌<◌, arith}
use Rattle.k2_tree.specs.Morton.{morton_column}
use Rattle.k2_tree.proofs.PlaceLemmas.{by_width, column-one, column-two}
use Rattle.k2_tree.proofs.square.digit_column.Goals as goal

pub returns-clause-value : goal.returns-clause-value
returns-clause-value c =
    let d : ℕ = c.args.digit in
    by_width (λ w. d < 4 ^ w → d % 2 + d / 4 % 2 * 2 ≡ morton_column w d) (λ low. omega (arith, column-one d low))
    (λ low. omega (arith, column-two d low)) c.args.width c.requires.some c.requires.few c.requires.small

pub returns-clause-small : goal.returns-clause-small
returns-clause-small c =
    let d : ℕ = c.args.digit in
    by_width (λ w. d < 4 ^ w → d % 2 + d / 4 % 2 * 2 < 2 ^ w) (λ low. omega arith) (λ low. omega arith)
    c.args.width c.requires.some c.requires.few c.requires.small
