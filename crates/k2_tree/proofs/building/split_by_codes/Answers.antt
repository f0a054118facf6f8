use Rattle.std.proofs.Common.{◌++◌, ◌-◌, ◌*◌, length, arith, ap, ◌∙◌, length-append}
use Rattle.k2_tree.specs.Widths.{levels_with}
use Rattle.k2_tree.specs.Building.{levels_bits}
use Rattle.k2_tree.proofs.BuiltLemmas.{few_bits}
use Rattle.k2_tree.proofs.BuildingLemmas.{levels_joined, upper_bits}
use Rattle.k2_tree.proofs.building.split_by_codes.Goals as goal

pub len-upper-requires : goal.len-upper-requires
len-upper-requires c =
    let a = c.args in
    let upper = levels_bits (levels_with 2 a.wide) (a.height - 2 * a.wide) a.codes.now in
    let lower = levels_bits (levels_with 1 (a.height - 2 * a.wide)) 0 a.codes.now in
    omega (
      arith,
      ap length (c.in_ok-push_levels.ensures.ok ∙ ap (λ bits. bits ++ upper) c.new-bits.ensures),
      length-append upper lower,
      ap length (levels_joined a.height a.wide a.codes.now),
      few_bits a.height a.wide a.codes.now c.requires.low c.requires.fits c.requires.few,
    )

pub push_levels-requires-2-clause-whole : goal.push_levels-requires-2-clause-whole
push_levels-requires-2-clause-whole c =
    let a = c.args in
    let upper = levels_bits (levels_with 2 a.wide) (a.height - 2 * a.wide) a.codes.now in
    omega (
      arith,
      ap length (c.in_ok-push_levels.ensures.ok ∙ ap (λ bits. bits ++ upper) c.new-bits.ensures),
      upper_bits a.height a.wide a.codes.now,
    )

pub into_list-requires : goal.into_list-requires
into_list-requires c =
    let a = c.args in
    let upper = levels_bits (levels_with 2 a.wide) (a.height - 2 * a.wide) a.codes.now in
    let lower = levels_bits (levels_with 1 (a.height - 2 * a.wide)) 0 a.codes.now in
    let made = c.in_ok-push_levels-2.ensures.ok
    ∙ ap (λ bits. bits ++ lower) (c.in_ok-push_levels.ensures.ok ∙ ap (λ bits. bits ++ upper) c.new-bits.ensures)
    ∙ levels_joined a.height a.wide a.codes.now in
    omega (arith, few_bits a.height a.wide a.codes.now c.requires.low c.requires.fits c.requires.few, ap length made)

pub returns-clause-bits : goal.returns-clause-bits
returns-clause-bits c =
    let a = c.args in
    let upper = levels_bits (levels_with 2 a.wide) (a.height - 2 * a.wide) a.codes.now in
    let lower = levels_bits (levels_with 1 (a.height - 2 * a.wide)) 0 a.codes.now in
    c.in_ok-into_list.ensures.ok ∙ c.in_ok-push_levels-2.ensures.ok
    ∙ ap (λ bits. bits ++ lower) (c.in_ok-push_levels.ensures.ok ∙ ap (λ bits. bits ++ upper) c.new-bits.ensures)
    ∙ levels_joined a.height a.wide a.codes.now

pub returns-clause-upper : goal.returns-clause-upper
returns-clause-upper c =
    let a = c.args in
    let upper = levels_bits (levels_with 2 a.wide) (a.height - 2 * a.wide) a.codes.now in
    let wide = c.in_ok-push_levels.ensures.ok ∙ ap (λ bits. bits ++ upper) c.new-bits.ensures in
    omega (arith, c.len-upper.ensures, ap length wide, upper_bits a.height a.wide a.codes.now)
