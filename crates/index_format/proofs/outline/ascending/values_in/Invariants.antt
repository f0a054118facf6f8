use Rattle.std.proofs.Common.{◌≡◌, ◌≤◌, ◌^◌, ℕ, Bool, List}
use Rattle.index_format.specs.OutlineLists.{least_after, value_in}
use Rattle.index_format.proofs.ItemLemmas.{IsUnderWay}
use Rattle.index_format.proofs.outline.ascending.values_in.Given as goal

-- values were read, and which may follow
pub record AreRead (height count index least : ℕ) (values : List ℕ) (rest bits : List Bool) : Type 0 where
  pub way : IsUnderWay (value_in height) count index values rest bits
  pub next : least ≡ least_after values
  pub few : least ≤ 2 ^ 50

abbrev pub invariant-loop-index : goal.invariant-loop-index
invariant-loop-index l = AreRead l.height l.count l.index l.least l.values.items l.reader l.fn.reader
