-- Two lists in an order as one.
use Rattle.std.specs.Prelude.{List, [], ◌∷◌}
use Rattle.std.specs.Ordering.{match_ordering}
use Rattle.std.specs.declared.cmp.Ordering.{Ordering}

module _ {X : Type 0} (order : X → X → Ordering) where
  -- the elements of both, each list in strict order: where two tie, that of the first
  unfoldable pub merge_of : List X → List X → List X
  merge_of [] others = others
  merge_of (x ∷ xs) [] = x ∷ xs
  merge_of (x ∷ xs) (y ∷ ys) =
      match_ordering (order x y) (x ∷ merge_of xs (y ∷ ys)) (x ∷ merge_of xs ys) (y ∷ merge_of (x ∷ xs) ys)
