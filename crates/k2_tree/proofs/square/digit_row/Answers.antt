use Rattle.std.proofs.Common.{◌≡◌, ℕ, ◌+◌, ◌*◌, ◌/◌, ◌%◌, ◌^◌, ◌<◌, arith}
use Rattle.k2_tree.specs.Morton.{morton_row}
use Rattle.k2_tree.proofs.PlaceLemmas.{by_width, row-one, row-two}
use Rattle.k2_tree.proofs.square.digit_row.Goals as goal

pub returns-clause-value : goal.returns-clause-value
returns-clause-value c =
    let d : ℕ = c.args.digit in
    by_width (λ w. d < 4 ^ w → d / 2 % 2 + d / 8 * 2 ≡ morton_row w d) (λ low. omega (arith, row-one d low))
    (λ low. omega (arith, row-two d low)) c.args.width c.requires.some c.requires.few c.requires.small

pub returns-clause-small : goal.returns-clause-small
returns-clause-small c =
    let d : ℕ = c.args.digit in
    by_width (λ w. d < 4 ^ w → d / 2 % 2 + d / 8 * 2 < 2 ^ w) (λ low. omega arith) (λ low. omega arith)
    c.args.width c.requires.some c.requires.few c.requires.small
