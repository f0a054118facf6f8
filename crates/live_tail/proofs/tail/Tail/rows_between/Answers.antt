use Rattle.std.proofs.Common.{◌≡◌, to_z, of_z, w64, arith}
use Rattle.std.proofs.lemmas.Int.{ints}
use Rattle.std.proofs.lemmas.List.Sorted.{All-permutation}
use Rattle.track_types.specs.Near.{IsCellWithin}
use Rattle.track_types.specs.Region.{is_between}
use Rattle.track_types.specs.declared.row.Row.{Row}
use Rattle.live_tail.specs.Join.{rows_of_tail}
use Rattle.live_tail.specs.SmallRows.{rows_in}
use Rattle.live_tail.proofs.CutLemmas.{All-filter, window-members}
use Rattle.live_tail.proofs.tail.Tail.rows_between.Goals as goal

pub between-requires : goal.between-requires
between-requires c = c.sorted.ensures.order

pub returns : goal.returns
returns c =
    let low : to_z w64 (of_z w64 c.args.from) ≡ c.args.from = omega (arith, ints) in
    let high : to_z w64 (of_z w64 c.args.to) ≡ c.args.to = omega (arith, ints) in
    let found = rw (low, high) at c.between.ensures in
    let near : Row → Type 0 = λ row. IsCellWithin row.cell in
    record {
      members = λ row. rw found (window-members (rows_of_tail c.args.self.now) (rows_in c.sorted.result) c.sorted.ensures.moved
          c.args.from c.args.to row);
      near = rw found (All-filter near (λ (row : Row). is_between c.args.from c.args.to row.instant) (rows_in c.sorted.result)
          (All-permutation near (rows_of_tail c.args.self.now) (rows_in c.sorted.result) c.sorted.ensures.moved
          (rw c.rows.ensures.value at c.rows.ensures.near)));
    }
