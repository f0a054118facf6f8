-- A step of a walk over two walks.
use Rattle.std.proofs.Common.{◌≡◌, ℤ, ◌<ℤ◌, List, [], ◌∷◌, ◌++◌, Option, None, Some, refl, sym, ap, ◌∙◌, arith}
use Rattle.std.specs.Option.{IfNone, option_to_list}
use Rattle.std.specs.Ordering.{int_cmp}
use Rattle.std.specs.declared.cmp.Ordering.TheVariants.{Less, Equal, Greater}
use Rattle.std.proofs.lemmas.Int.{ints}
use Rattle.track_types.specs.declared.stop.Stop.{Stop}
use Rattle.path_union.specs.Merge.{merge_of}
use Rattle.path_union.specs.Walk.{stop_order, stops_of_both}

-- stops merged with none
pub merge_of-nil : (stops : List Stop) → merge_of stop_order stops [] ≡ stops
unfolding merge_of
merge_of-nil [] = refl
merge_of-nil (own ∷ rest) = refl

less_is : (a b : ℤ) → a <ℤ b → int_cmp a b ≡ Less
less_is a b less = grind (arith, ints)

greater_is : (a b : ℤ) → b <ℤ a → int_cmp a b ≡ Greater
greater_is a b more = grind (arith, ints)

equal_is : (a b : ℤ) → a ≡ b → int_cmp a b ≡ Equal
equal_is a b same = grind (arith, ints)

module _ (own : Stop) (rest : List Stop) (stop : Stop) (others : List Stop) where
  -- the older stop comes first
  pub merge_of-older : stop.instant <ℤ own.instant
      → merge_of stop_order (own ∷ rest) (stop ∷ others) ≡ stop ∷ merge_of stop_order (own ∷ rest) others
  unfolding merge_of
  merge_of-older before = rw (greater_is own.instant stop.instant before) refl

  -- the later stop comes first
  pub merge_of-later : own.instant <ℤ stop.instant
      → merge_of stop_order (own ∷ rest) (stop ∷ others) ≡ own ∷ merge_of stop_order rest (stop ∷ others)
  unfolding merge_of
  merge_of-later before = rw (less_is own.instant stop.instant before) refl

  -- both are at one instant
  pub merge_of-both : own.instant ≡ stop.instant
      → merge_of stop_order (own ∷ rest) (stop ∷ others) ≡ own ∷ merge_of stop_order rest others
  unfolding merge_of
  merge_of-both same = rw (equal_is own.instant stop.instant same) refl

pub if-none : {X : Type 0} (found : Option X) (P : Type 0) → found ≡ None → IfNone found P → P
if-none None P is none = none
if-none (Some x) P is none = absurd (cc)

-- no stop is left where none was given and none came from either walk
pub none-left : (given later older : Option Stop) (laters olders all others : List Stop)
    → IfNone given (later ≡ None) → IfNone given (older ≡ None) → IfNone later (laters ≡ []) → IfNone older (olders ≡ [])
    → all ≡ option_to_list later ++ laters → others ≡ option_to_list older ++ olders
    → IfNone given (stops_of_both all others ≡ [])
unfolding merge_of
none-left (Some stop) later older laters olders all others no_later no_older none also is are = tt
none-left None None None laters olders all others no_later no_older none also is are = rw (is, are, none, also) refl
none-left None None (Some stop) laters olders all others no_later no_older none also is are = absurd (cc)
none-left None (Some stop) older laters olders all others no_later no_older none also is are = absurd (cc)

module _ (later older : Option Stop) (laters olders : List Stop) (none : IfNone later (laters ≡ [])) (also : IfNone older (olders ≡ [])) where
  -- the later walk has no stop
  pub merged-older : later ≡ None
      → stops_of_both (option_to_list later ++ laters) (option_to_list older ++ olders) ≡ option_to_list older ++ stops_of_both laters olders
  unfolding merge_of
  merged-older gone = let nothing : laters ≡ [] = if-none later _ gone none in rw (gone, nothing) refl

  -- the older walk has none
  pub merged-later : older ≡ None
      → stops_of_both (option_to_list later ++ laters) (option_to_list older ++ olders) ≡ option_to_list later ++ stops_of_both laters olders
  merged-later gone =
      let nothing : olders ≡ [] = if-none older _ gone also in
      rw (gone, nothing)
      (merge_of-nil (option_to_list later ++ laters) ∙ ap (λ stops. option_to_list later ++ stops) (sym (merge_of-nil laters)))
