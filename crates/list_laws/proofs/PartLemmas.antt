-- Parts of lists: what holds of all, and lists in strict order: what stands in front, what stands after, and what may be put between.
use Rattle.std.proofs.Common.{◌≡◌, ℕ, zero, suc, List, [], ◌∷◌, ◌++◌, Ordering}
use Rattle.std.specs.Prelude.{drop}
use Rattle.std.specs.List.{AllByRecursion, Contains}
use Rattle.std.specs.List.Sorted.{IsStrictlySortedBy}
use Rattle.list_laws.proofs.MemberLemmas.{first_member, later_member}

module _ {X : Type 0} where
  -- what holds of each member holds of all
  pub all_from_members : (P : X → Type 0) (xs : List X) → ((x : X) → Contains xs x → P x) → AllByRecursion P xs
  all_from_members P [] each = tt
  all_from_members P (x ∷ xs) each =
      (each x (first_member x xs), all_from_members P xs (λ y inside. each y (later_member y x xs inside)))

  all_behind : (P : X → Type 0) (xs ys : List X) → AllByRecursion P (xs ++ ys) → AllByRecursion P ys
  all_behind P [] ys all = all
  all_behind P (x ∷ xs) ys all = all_behind P xs ys all.1

  -- what is left of a list was in it
  pub member_of_drop : (k : ℕ) (xs : List X) (x : X) → Contains (drop k xs) x → Contains xs x
  member_of_drop zero xs x inside = inside
  member_of_drop (suc k) [] x inside = inside
  member_of_drop (suc k) (y ∷ ys) x inside = later_member x y ys (member_of_drop k ys x inside)

  module _ (order : X → X → Ordering) where
    -- and so are those that are left without the first ones
    pub IsStrictlySortedBy-drop : (n : ℕ) (xs : List X) → IsStrictlySortedBy order xs → IsStrictlySortedBy order (drop n xs)
    unfolding IsStrictlySortedBy
    IsStrictlySortedBy-drop zero xs up = up
    IsStrictlySortedBy-drop (suc n) [] up = tt
    IsStrictlySortedBy-drop (suc n) (x ∷ xs) up = IsStrictlySortedBy-drop n xs up.1
