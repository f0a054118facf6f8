-- When a list is refused.
use Rattle.std.specs.Prelude.{◌≡◌, ℕ, List, Some, ⊤}
use Rattle.object_perm.specs.Permutation.{PermutesPlaces, first_flawed_place}
use Rattle.object_perm.specs.declared.fault.PermFault.{PermFault}
use Rattle.object_perm.specs.declared.fault.PermFault.TheVariants.{Flaw, Memory}

-- a flaw is the first one of a list that is no permutation; memory may be wanting for any list
abbrev pub IsPermFault : List ℕ → PermFault → Type 0
IsPermFault values (Flaw index) = (first_flawed_place values ≡ Some index) × (PermutesPlaces values → ⊥)
IsPermFault values Memory = ⊤
