-- Rules that a search has opened, and what is known of each: how far it has gone over it.
use Rattle.std.specs.Prelude.{◌≡◌, ℕ, ◌<◌, ℤ, ◌≤ℤ◌, false, List, [], ◌∷◌, ◌++◌, replicate, All, Option, Some, None, ⊤}
use Rattle.std.specs.List.{Contains}
use Rattle.track_types.specs.Region.{in_region}
use Rattle.track_types.specs.declared.cell.Cell.{Cell}
use Rattle.track_types.specs.declared.region.Region.{Region}
use Rattle.track_types.specs.declared.stop.Stop.{Stop}
use Rattle.rule_store.specs.View.{RulesView}
use Rattle.rule_store.specs.Cells.{cells_along, displacement_of, moved, present_in}
use Rattle.rule_store.specs.Expansion.{values_of}
use Rattle.rule_store.specs.Log.{log_values}
use Rattle.log_cursor.specs.Pending.{PendingView}
use Rattle.log_cursor.specs.Touching.{touches_at}
use Rattle.log_cursor.specs.Turn.{IsWalking, has_hull, is_stop_in}
use Rattle.log_cursor.specs.declared.opened.RuleAt.{RuleAt}
use Rattle.log_cursor.specs.declared.start.Start.{Start}

-- this rule, from this cell on
abbrev pub rule_at : ℕ → Cell → RuleAt
rule_at rule cell = record { rule = rule; cell = cell }

-- a table without a rule
abbrev pub no_rules : List (Option RuleAt)
no_rules = replicate 256 None

-- a rule is kept in a table
abbrev pub Has : List (Option RuleAt) → RuleAt → Type 0
Has table opened = Contains table (Some opened)

-- values lead from a cell to no cell of a region
unfoldable pub IsOutside : Region → Cell → List ℕ → Type 0
IsOutside region cell values = All (λ c. in_region region c ≡ false) (present_in (cells_along cell values))

-- what holds if some symbols are left
abbrev pub IfAny : List ℕ → Type 0 → Type 0
IfAny [] claim = ⊤
IfAny (symbol ∷ symbols) claim = claim

-- A rule that was opened has been gone over as far as the symbols that come next, which are all below it. What lies
-- behind has no cell of the region. If some of the rule is left, the search is there, within its window.
pub record IsGoneOver (rules : RulesView) (region : Region) (from : ℤ) (symbols : List ℕ) (at : Start) (opened : RuleAt) :
    Type 0 where
  pub behind : List ℕ
  pub ahead : List ℕ
  pub later : List ℕ
  pub values : values_of rules opened.rule ≡ behind ++ log_values rules ahead
  pub below : All (λ symbol. symbol < opened.rule) ahead
  pub next : symbols ≡ ahead ++ later
  pub outside : IsOutside region opened.cell behind
  pub here : IfAny ahead ((at.cell ≡ moved opened.cell (displacement_of behind)) × (from ≤ℤ at.instant))

-- all rules that are kept in a table have been gone over as far as the symbols that come next
pub record AreGoneOver (rules : RulesView) (region : Region) (from : ℤ) (table : List (Option RuleAt)) (symbols : List ℕ)
    (at : Start) : Type 0 where
  pub each : (opened : RuleAt) → Has table opened → IsGoneOver rules region from symbols at opened

-- What a search of a region has done: what a walk for its stops has done, by its own budget and by that of a walk that
-- draws all stops, and each rule that is kept has been gone over as far.
pub record IsSearching (region : Region) (rules : RulesView) (stops : List Stop) (budget all : ℕ) (from to : ℤ)
    (table : List (Option RuleAt)) (pending : PendingView) (at : Start) (steps : ℕ) : Type 0 where
  pub walking : IsWalking (is_stop_in region) (touches_at region) rules stops budget from to pending at steps
  pub drawing : IsWalking (is_stop_in region) has_hull rules stops all from to pending at steps
  pub gone : AreGoneOver rules region from table pending.symbols at
