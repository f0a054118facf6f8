-- Rules by layers: a terminal is in layer 0, and a rule in the layer above the higher one of its parts.
use Rattle.std.specs.Prelude.{ℕ, zero, suc, ◌+◌, ◌-◌, max, nat_lt, Bool, not, ◌&&◌, ◌||◌, List, [], ◌∷◌, ◌++◌, length, map, filter, fold, slice_index_or, zip, drop, Option, Some, None, Ok, Err, ◌==◌, if◌then◌else◌}
use Rattle.std.specs.List.{flat_map, range_with_len}
use Rattle.bit_stream.specs.Numbers.{number_bits}
use Rattle.rule_store.specs.Expansion.{depths}
use Rattle.rule_store.specs.Flaws.{is_rule_flawed}
use Rattle.rule_store.specs.View.{RulesView, rules_with}
use Rattle.track_types.specs.declared.flaw.Kind.TheVariants.{Field}
use Rattle.track_types.specs.declared.flaw.Kind.TheVariants as kind
use Rattle.track_types.specs.declared.flaw.Section.TheVariants.{Layers, Rules}
use Rattle.index_format.specs.Fields.{◌>>=◌, flaw_at, items_at}
use Rattle.index_format.specs.Elements.{Element, told_at}
use Rattle.index_format.specs.OutlineLists.{told_bits}

-- the layer of each rule, over so many terminals
abbrev pub layers_of : ℕ → List (ℕ × ℕ) → List ℕ
layers_of terminals rules = drop terminals (depths terminals rules)

-- how many layers there are above the terminals
abbrev pub layer_count : ℕ → List (ℕ × ℕ) → ℕ
layer_count terminals rules = fold max 0 (depths terminals rules)

-- a rule that is known by its layer
abbrev pub is_in_layer : ℕ → ℕ × (ℕ × ℕ) → Bool
is_in_layer layer rule = rule.0 == layer

-- the rules of a layer, in order
unfoldable pub layer_rules : ℕ → List (ℕ × ℕ) → ℕ → List (ℕ × ℕ)
layer_rules terminals rules layer = map (λ rule. rule.1) (filter (is_in_layer layer) (zip (layers_of terminals rules) rules))

-- how many symbols there are in the layers below one
unfoldable pub symbols_under : ℕ → List (ℕ × ℕ) → ℕ → ℕ
symbols_under terminals rules layer = length (filter (λ depth. nat_lt depth layer) (depths terminals rules))

-- the least left part that a rule of a layer may have after the previous rule
abbrev pub least_left : Option (ℕ × ℕ) → ℕ
least_left None = 0
least_left (Some before) = before.0

-- the least right part under which a rule with this left part is in its layer: from `base` on are the symbols of the layer before
abbrev pub layer_floor : ℕ → ℕ → ℕ
layer_floor base left = if nat_lt left base then base else 0

-- the least right part that a rule may have after the previous rule of its layer
abbrev pub least_right : ℕ → Option (ℕ × ℕ) → ℕ → ℕ
least_right base None left = layer_floor base left
least_right base (Some before) left = if left == before.0 then before.1 else layer_floor base left

-- the last rule, unless there are no more than at the layer's start
abbrev pub rule_before : ℕ → List (ℕ × ℕ) → Option (ℕ × ℕ)
rule_before start seen = if length seen == start then None else Some (slice_index_or seen (length seen - 1) (0, 0))

-- both parts are symbols of the layers below
abbrev pub are_under : ℕ → ℕ × ℕ → Bool
are_under top rule = nat_lt rule.0 top && nat_lt rule.1 top

-- the view with these rules; its values, and what an entry may reach, stay
abbrev pub with_rules : RulesView → List (ℕ × ℕ) → RulesView
with_rules view rules = rules_with view.alphabet rules view.symbols view.height view.period

-- the rule is no rule over the symbols of the layers below, or lasts or reaches too far
abbrev pub is_flawed_under : RulesView → ℕ → List (ℕ × ℕ) → ℕ × ℕ → Bool
is_flawed_under view top seen rule =
    not (are_under top rule) || is_rule_flawed (with_rules view (seen ++ rule ∷ [])) (length seen)

-- a rule of a layer that begins after `start` rules: two numbers, which are one element
unfoldable pub layer_rule_in : RulesView → ℕ → ℕ → ℕ → List (ℕ × ℕ) → List Bool → Element (ℕ × ℕ)
layer_rule_in view base top start seen bits = do
  more ← told_at (flaw_at Rules 0 (length seen)) bits
  right ← told_at (flaw_at Rules 0 (length seen)) more.1
  judged_rule view top seen right.1 (
    least_left (rule_before start seen) + more.0,
    least_right base (rule_before start seen) (least_left (rule_before start seen) + more.0) + right.0,
  )
  where
    judged_rule : RulesView → ℕ → List (ℕ × ℕ) → List Bool → ℕ × ℕ → Element (ℕ × ℕ)
    judged_rule view top seen bits rule =
        if is_flawed_under view top seen rule then Err (flaw_at Rules 0 (length seen) kind.Rule) else Ok (rule, bits)

-- layers, at most so many, until there are so many rules
unfoldable pub layers_in : ℕ → RulesView → ℕ → ℕ → ℕ → List (ℕ × ℕ) → List Bool → Element (List (ℕ × ℕ))
layers_in zero view count layer base seen bits = Ok (seen, bits)
layers_in (suc more) view count layer base seen bits =
    if length seen == count then Ok (seen, bits) else do
      rules ← told_at (flaw_at Layers 0 layer) bits
      if nat_lt (count - length seen) (suc rules.0) then Err (flaw_at Layers 0 layer Field) else do
        told ← items_at (layer_rule_in view base (length view.alphabet + length seen) (length seen)) (suc rules.0) seen rules.1
        layers_in more view count (suc layer) (length view.alphabet + length seen) told.0 told.1

-- so many rules over these values
unfoldable pub rules_in : RulesView → ℕ → List Bool → Element (List (ℕ × ℕ))
rules_in view count bits = layers_in count view count 0 0 [] bits

-- the two numbers of each rule of a layer
unfoldable pub rule_numbers : ℕ → Option (ℕ × ℕ) → List (ℕ × ℕ) → List ℕ
rule_numbers base before [] = []
rule_numbers base before (rule ∷ rules) =
    (rule.0 - least_left before) ∷ (rule.1 - least_right base before rule.0) ∷ rule_numbers base (Some rule) rules

-- a layer: how many rules it has, less 1, and these
unfoldable pub layer_bits : ℕ → List (ℕ × ℕ) → ℕ → List Bool
layer_bits terminals rules layer =
    number_bits (length (layer_rules terminals rules layer) - 1)
    ++ told_bits (rule_numbers (symbols_under terminals rules (layer - 1)) None (layer_rules terminals rules layer))

-- all layers, over so many terminals
unfoldable pub rules_bits : ℕ → List (ℕ × ℕ) → List Bool
rules_bits terminals rules = flat_map (layer_bits terminals rules) (range_with_len 1 (layer_count terminals rules))
