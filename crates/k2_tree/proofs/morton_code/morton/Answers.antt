use Rattle.std.proofs.Common.{rules}
use Rattle.k2_tree.specs.Morton.{morton_of}
use Rattle.k2_tree.proofs.morton_code.morton.Goals as goal

pub returns : goal.returns
unfolding morton_of
returns c = search rules
