-- The definitions on worked lists.
use Rattle.std.proofs.Common.{◌≡◌, [], ◌∷◌, Some, None, refl}
use Rattle.object_perm.specs.Permutation.{first_flawed_place, inverse_of}
use Rattle.object_perm.specs.Walk.{along}
use Rattle.object_perm.specs.Marks.{marks_of, targets_of}

-- a permutation has no flaw, nor has the empty one
turned : first_flawed_place (2 ∷ 0 ∷ 1 ∷ []) ≡ None
turned = refl

empty : first_flawed_place [] ≡ None
empty = refl

-- a value that stood before, and one that is not below the length
repeated : first_flawed_place (0 ∷ 0 ∷ []) ≡ Some 1
repeated = refl

great : first_flawed_place (0 ∷ 2 ∷ []) ≡ Some 1
great = refl

-- the earlier of two flaws
earlier : first_flawed_place (1 ∷ 7 ∷ 1 ∷ []) ≡ Some 1
earlier = refl

-- where the values of 2 0 1 stand
place_of_zero : inverse_of (2 ∷ 0 ∷ 1 ∷ []) 0 ≡ 1
place_of_zero = refl

place_of_two : inverse_of (2 ∷ 0 ∷ 1 ∷ []) 2 ≡ 0
place_of_two = refl

-- two moves from place 0 of 2 0 1: to 2, then to 1
two_moves : along (2 ∷ 0 ∷ 1 ∷ []) 2 0 ≡ 1
unfolding along
two_moves = refl

-- places 1 and 2 of three have shortcuts
marks : marks_of (None ∷ Some 9 ∷ Some 4 ∷ []) ≡ 6
unfolding marks_of
marks = refl

targets : targets_of (None ∷ Some 9 ∷ Some 4 ∷ []) ≡ 9 ∷ 4 ∷ []
targets = refl
