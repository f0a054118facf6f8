-- What a node is, as it is kept in two numbers.
use Rattle.std.specs.Prelude.{ℕ, ◌-◌, ◌^◌, nat_lt, if◌then◌else◌}
use Rattle.box_tree.specs.declared.node_kind.NodeKind.{NodeKind}
use Rattle.box_tree.specs.declared.node_kind.NodeKind.TheVariants.{Bucket, Branch}

-- the kind that a link stands for: a bucket's second number is 2^31 and the place after its last one
abbrev pub link_kind : ℕ × ℕ → NodeKind
link_kind link = if nat_lt link.1 (2 ^ 31) then Branch link.0 link.1 else Bucket link.0 (link.1 - 2 ^ 31)
