-- Counts around a place: what a pair counts by its neighbours and by the runs that meet.
use Rattle.std.specs.Prelude.{ℕ, Bool, false, not, ◌&&◌, ◌==◌, if◌then◌else◌, Option, Some, None, List, [], ◌∷◌, ◌++◌}

-- whether the run of a symbol at the front is odd
unfoldable pub begins_odd : ℕ → List ℕ → Bool
begins_odd u [] = false
begins_odd u (x ∷ xs) = (x == u) && not (begins_odd u xs)

-- whether the run of a symbol at the end is odd, where a run that stood before was odd or not
unfoldable pub ends_odd : ℕ → Bool → List ℕ → Bool
ends_odd u odd [] = odd
ends_odd u odd (x ∷ xs) = ends_odd u ((x == u) && not odd) xs

-- the pair on the left that counts once less where (a, b) goes, after front and the symbol l
unfoldable pub left_gone : List ℕ → ℕ → ℕ → ℕ → Option (ℕ × ℕ)
left_gone front l a b =
    if l == a then (if not (a == b) && ends_odd a false (front ++ l ∷ []) then Some (a, a) else None)
    else Some (l, a)

-- the pair on the right, before r and rest
unfoldable pub right_gone : ℕ → ℕ → ℕ → List ℕ → Option (ℕ × ℕ)
right_gone a b r rest = if r == b then (if not (a == b) && begins_odd b (r ∷ rest) then Some (b, b) else None)
    else Some (b, r)

-- the pair on the left that counts once more where c comes
unfoldable pub left_come : List ℕ → ℕ → ℕ → Option (ℕ × ℕ)
left_come front l c = if l == c then (if ends_odd c false (front ++ l ∷ []) then Some (c, c) else None)
    else Some (l, c)
