-- The order of nearness.
use Rattle.std.specs.Cmp.{IsTotalOrder}
use Rattle.std.proofs.lemmas.Cmp.{nat_cmp_total, on_total, then_total}
use Rattle.track_types.specs.ByFilter.{near_order}
use Rattle.track_types.specs.declared.near.Near.{Near}

-- it is total
pub near_order_total : IsTotalOrder near_order
near_order_total =
    then_total (on_total (λ (near : Near). near.dist2) nat_cmp_total) (on_total (λ (near : Near). near.object) nat_cmp_total)
