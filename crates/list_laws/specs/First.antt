-- The first thing that the members of a list give.
use Rattle.std.specs.Prelude.{List, [], ◌∷◌, Option, None}
use Rattle.std.specs.Option.{option_or}

-- the first thing that members give, where each may give nothing
unfoldable pub first_given : {X Y : Type 0} → (X → Option Y) → List X → Option Y
first_given give [] = None
first_given give (x ∷ xs) = option_or (give x) (first_given give xs)
