-- Whether an object is one of an index's.
use Rattle.std.specs.Prelude.{ℕ, Bool, ◌==◌, List}
use Rattle.std.specs.List.{list_any}

-- whether an object is among those that are listed
abbrev pub is_listed : ℕ → List ℕ → Bool
is_listed object objects = list_any (λ listed. object == listed) objects
