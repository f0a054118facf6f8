use Rattle.std.proofs.Common.{arith, ap, length}
use Rattle.object_perm.specs.Shortcuts.{LeadBack, HoldsShortcuts}
use Rattle.object_perm.proofs.SettledLemmas.{lead-held}
use Rattle.object_perm.proofs.perm.Perm.of_permutation.Goals as goal

pub invariant_of-result : goal.invariant_of-result
invariant_of-result c =
    let lead : LeadBack c.as_slice.result.now c.in_ok-targets.targets.items = c.in_ok-targets.ensures.back in
    let holds : HoldsShortcuts c.as_slice-2.result.now c.in_ok-shortcuts.shortcuts = c.in_ok-shortcuts.ensures in
    rw (c.new.ensures, c.into_vec.ensures) (record {
      permutes = c.requires.permutes;
      short = c.requires.short;
      lead_back = lead-held c.as_slice.result.now c.args.list c.in_ok-targets.targets.items c.as_slice-2.result.now
          c.in_ok-shortcuts.shortcuts c.as_slice.ensures c.as_slice-2.ensures.value lead holds;
    })

pub pack-requires : goal.pack-requires
pack-requires c =
    omega (
      arith,
      c.in_ok-targets.ensures.same_length,
      c.as_slice-2.ensures.len,
      ap length c.as_slice-2.ensures.value,
      ap length c.as_slice.ensures,
      c.requires.short,
    )
