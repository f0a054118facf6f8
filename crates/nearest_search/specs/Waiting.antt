-- The order of what waits.
use Rattle.std.specs.Ordering.{flip_args, nat_cmp, on}
use Rattle.std.specs.declared.cmp.Ordering.{Ordering}
use Rattle.nearest_search.specs.declared.waiting.Element.{Element}

-- the greatest is the one with the least key
abbrev pub element_cmp : Element → Element → Ordering
element_cmp = flip_args (on (λ (e : Element). e.key) nat_cmp)
