use Rattle.gract_top.proofs.WritingLemmas.{IsNewest-chart}
use Rattle.gract_top.proofs.chart_writing.index_bytes.Goals as goal

pub encode-requires : goal.encode-requires
encode-requires c = IsNewest-chart c.args.chart c.in_ok-parts.parts c.in_ok-parts.ensures.ok c.in_ok-parts.ensures.valid c.in_ok-parts.ensures.order
