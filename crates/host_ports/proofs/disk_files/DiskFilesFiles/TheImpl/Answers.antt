use Rattle.std.proofs.Common.{arith}
use Rattle.std.proofs.lemmas.Grind.{common_steps}
use Rattle.host_ports.proofs.disk_files.DiskFilesFiles.TheImpl.Goals as goal

-- what the trait says follows from the counts, where nothing is told
pub begin-tells : goal.begin-tells
begin-tells g c = grind (arith, common_steps)

pub pull-tells : goal.pull-tells
pull-tells g c = grind (arith, common_steps)

pub save-tells : goal.save-tells
save-tells g c = grind (arith, common_steps)

pub pass-tells : goal.pass-tells
pass-tells g c = grind (arith, common_steps)
