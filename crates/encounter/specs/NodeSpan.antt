-- The span of a node as code sees it.
use Rattle.std.specs.Prelude.{[]}
use Rattle.encounter.specs.Span.{Span}
use Rattle.encounter.specs.declared.block_node.BlockNode.{BlockNode}

-- the span of a node: its instants and its box, without the terminals that it stands for
abbrev pub span_of_node : BlockNode → Span
span_of_node part = record { begin = part.begin; end = part.end; area = part.area; inside = [] }
