use Rattle.std.proofs.Common.{◌≡◌, ◌≤◌, ◌^◌, ℕ, Bool, List}
use Rattle.index_format.specs.OutlineLists.{least_after, object_in}
use Rattle.index_format.proofs.ItemLemmas.{IsUnderWay}
use Rattle.index_format.proofs.outline.ascending.objects_in.Given as goal

-- objects were read, and which may follow
pub record AreRead (count index least : ℕ) (objects : List ℕ) (rest bits : List Bool) : Type 0 where
  pub way : IsUnderWay object_in count index objects rest bits
  pub next : least ≡ least_after objects
  pub few : least ≤ 2 ^ 32

abbrev pub invariant-loop-index : goal.invariant-loop-index
invariant-loop-index l = AreRead l.count l.index l.least l.objects.items l.reader l.fn.reader
