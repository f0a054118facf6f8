use Rattle.std.proofs.Common.{arith}
use Rattle.std.proofs.lemmas.Grind.{common_steps}
use Rattle.question_shell.proofs.item.write_near.Goals as goal

pub put_space-requires : goal.put_space-requires
put_space-requires c = grind (arith, common_steps)

pub put_number-requires : goal.put_number-requires
put_number-requires c = grind (arith, common_steps)

pub put_space-requires-2 : goal.put_space-requires-2
put_space-requires-2 c = grind (arith, common_steps)

pub put_number-requires-2 : goal.put_number-requires-2
put_number-requires-2 c = grind (arith, common_steps)

pub put_space-requires-3 : goal.put_space-requires-3
put_space-requires-3 c = grind (arith, common_steps)

pub put_count-requires : goal.put_count-requires
put_count-requires c = grind (arith, common_steps)

pub returns : goal.returns
returns c = grind (arith, common_steps)
