-- What contracts see of a rule store: the lists that it was checked from.
use Rattle.std.specs.Prelude.{ℕ, ◌+◌, ◌≤◌, List, length}
use Rattle.std.specs.List.Sorted.{IsStrictlyIncreasing}
use Rattle.track_types.specs.Limits.{IsPeriod, limit_of}
use Rattle.track_types.specs.declared.limit.LimitKind.TheVariants.{Symbols}
use Rattle.track_types.specs.declared.limit.TheConstants.{MAX_HEIGHT}

-- the alphabet's values, the two parts of each rule, the stored symbols of all logs, the height of the grid, and
-- how many instants a period has
pub record RulesView : Type 0 where
  pub alphabet : List ℕ
  pub rules : List (ℕ × ℕ)
  pub symbols : List ℕ
  pub height : ℕ
  pub period : ℕ

-- the view with these lists, height and period
abbrev pub rules_with : List ℕ → List (ℕ × ℕ) → List ℕ → ℕ → ℕ → RulesView
rules_with alphabet rules symbols height period =
    record { alphabet = alphabet; rules = rules; symbols = symbols; height = height; period = period }

-- how many symbols there are: the terminals, and one symbol for each rule
abbrev pub symbols_in : RulesView → ℕ
symbols_in view = length view.alphabet + length view.rules

-- what is known of lists before they are judged
pub record AreShapedRules (view : RulesView) : Type 0 where
  pub ascending : IsStrictlyIncreasing view.alphabet
  pub alphabet_fits : length view.alphabet ≤ limit_of Symbols
  pub rules_fit : length view.rules ≤ limit_of Symbols
  pub symbols_fit : length view.symbols ≤ limit_of Symbols
  pub high : 1 ≤ view.height
  pub height_fits : view.height ≤ MAX_HEIGHT
  pub period_fits : IsPeriod view.period
