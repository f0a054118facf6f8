-- Rules as a list of layers. Each layer is a list of rules.
use Rattle.std.specs.Prelude.{ℕ, ◌+◌, ◌-◌, ◌<◌, ◌≤◌, Bool, List, [], ◌∷◌, ◌++◌, length, Option, Some, None, ⊤}
use Rattle.bit_stream.specs.Numbers.{number_bits}
use Rattle.index_format.specs.OutlineLists.{told_bits}
use Rattle.index_format.specs.OutlineRules.{layer_floor, least_left, least_right, rule_numbers}

-- a rule of the layer over the symbols below `top`; those from `base` on are of the layer before; it comes after another rule of its
-- layer, if there is one
pub record Follows (base top : ℕ) (before : Option (ℕ × ℕ)) (rule : ℕ × ℕ) : Type 0 where
  pub left : rule.0 < top
  pub right : rule.1 < top
  pub floor : layer_floor base rule.0 ≤ rule.1
  pub left_rises : least_left before ≤ rule.0
  pub right_rises : least_right base before rule.0 ≤ rule.1

-- rules of one layer, in order
unfoldable pub IsLayer : ℕ → ℕ → Option (ℕ × ℕ) → List (ℕ × ℕ) → Type 0
IsLayer base top before [] = ⊤
IsLayer base top before (rule ∷ rules) = Follows base top before rule × IsLayer base top (Some rule) rules

-- layers, each above the one before it
unfoldable pub AreLayers : ℕ → ℕ → List (List (ℕ × ℕ)) → Type 0
AreLayers base top [] = ⊤
AreLayers base top (layer ∷ layers) = (0 < length layer) × IsLayer base top None layer × AreLayers top (top + length layer) layers

-- all their rules
unfoldable pub rules_of : List (List (ℕ × ℕ)) → List (ℕ × ℕ)
rules_of [] = []
rules_of (layer ∷ layers) = layer ++ rules_of layers

-- one layer: how many rules it has, less 1, and these
unfoldable pub one_layer_bits : ℕ → List (ℕ × ℕ) → List Bool
one_layer_bits base layer = number_bits (length layer - 1) ++ told_bits (rule_numbers base None layer)

-- layers
unfoldable pub layers_bits : ℕ → ℕ → List (List (ℕ × ℕ)) → List Bool
layers_bits base top [] = []
layers_bits base top (layer ∷ layers) = one_layer_bits base layer ++ layers_bits top (top + length layer) layers
