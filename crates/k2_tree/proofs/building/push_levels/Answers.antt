use Rattle.std.proofs.Common.{◌+◌, ◌-◌, ◌*◌, ◌++◌, ap, ◌∙◌, arith, length, length-append}
use Rattle.k2_tree.specs.Widths.{levels_with}
use Rattle.k2_tree.specs.TreeBits.{level_bits, prefixes}
use Rattle.k2_tree.specs.Building.{levels_bits}
use Rattle.k2_tree.proofs.GroupBitsLemmas.{groups_more}
use Rattle.k2_tree.proofs.LevelLemmas.{length-level_bits}
use Rattle.k2_tree.proofs.BuildingLemmas.{levels_step, levels_end}
use Rattle.k2_tree.proofs.building.push_levels.Goals as goal

pub loop-level-preserved : goal.loop-level-preserved
loop-level-preserved c =
    let a = c.args in
    let before = c.loop-level.bits in
    let level = a.width * (c.loop-level.level - 1) + a.below in
    let made = c.in_ok-push_level.ensures.ok in
    let long = ap length made ∙ length-append before (level_bits a.width level a.codes.now)
    ∙ ap (λ n. length before + n) (length-level_bits a.width level a.codes.now) in
    record {
      whole = rw long (groups_more a.width (length before) (length (prefixes (a.width + level) a.codes.now)) c.requires.narrow
          c.loop-level.invariant.whole);
      levels = levels_step a.width c.loop-level.level a.below a.codes.now before c.push_level.new.bits
          (a.bits.now ++ levels_bits (levels_with a.width a.levels) a.below a.codes.now) (omega arith)
          c.loop-level.invariant.levels made;
    }

pub returns : goal.returns
returns c =
    let a = c.args in
    record {
      ok = levels_end a.width c.loop-level.level a.below a.codes.now c.loop-level.bits
          (a.bits.now ++ levels_bits (levels_with a.width a.levels) a.below a.codes.now) (omega arith)
          c.loop-level.invariant.levels;
    }
