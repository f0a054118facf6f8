use Rattle.std.proofs.Common.{◌≡◌, ◌≤◌, ◌^◌, max, take}
use Rattle.std.specs.Prelude.{fold}
use Rattle.rule_store.specs.Stored.{entries_of}
use Rattle.rule_store.proofs.store.greatest_depth.Given as goal

abbrev pub invariant-loop-place : goal.invariant-loop-place
invariant-loop-place l = record {
  value : l.depth ≡ fold (λ deepest entry. max deepest entry.depth) 0 (take l.place (entries_of l.entries));
  within : l.depth ≤ 2 ^ 26;
}
