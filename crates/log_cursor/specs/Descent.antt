-- A search for the stop of a block at one instant, and what is left of it.
use Rattle.std.specs.Prelude.{◌≡◌, ℕ, ◌+◌, ◌*◌, ◌<◌, ◌≤◌, max, ℤ, pos, ◌+ℤ◌, ◌<ℤ◌, ◌≤ℤ◌, Bool, true, false, ◌==◌, ◌||◌, List, [], ◌∷◌, drop, length, slice_get}
use Rattle.std.specs.Prelude.{if◌then◌else◌, Option, Some, None, ⊤}
use Rattle.std.specs.Int.Signed.{le_z}
use Rattle.track_types.specs.declared.region.Region.{Region}
use Rattle.track_types.specs.declared.stop.Stop.{Stop}
use Rattle.rule_store.specs.View.{RulesView, symbols_in}
use Rattle.rule_store.specs.Expansion.{values_of}
use Rattle.rule_store.specs.Flaws.{left_of, right_of}
use Rattle.rule_store.specs.Log.{stop_at}
use Rattle.log_cursor.specs.Needs.{RulesWithin}
use Rattle.log_cursor.specs.Start.{IsWayOf}
use Rattle.log_cursor.specs.Touching.{first_hit_of, hit_left, touching_count, touching_left, touching_rule}
use Rattle.log_cursor.specs.declared.descent.Descent.{Descent}
use Rattle.log_cursor.specs.declared.descent.Stage.{Stage}
use Rattle.log_cursor.specs.declared.descent.Stage.TheVariants.{Within, Touching, Parted, Found, Missed}
use Rattle.log_cursor.specs.declared.start.Start.{Start}

-- an instant is one of those of some values that begin after a start
pub record HasInstant (start : Start) (instant : ℤ) (count : ℕ) : Type 0 where
  pub after : start.instant <ℤ instant
  pub within : instant ≤ℤ (start.instant +ℤ pos count)

-- a symbol that begins after a start has the instant
pub record IsWithin (rules : RulesView) (at : Start) (instant : ℤ) (symbol : ℕ) : Type 0 where
  pub known : symbol < symbols_in rules
  pub way : IsWayOf rules at (symbol ∷ [])
  pub has : HasInstant at instant (length (values_of rules symbol))

-- it is a rule
pub record IsTouching (rules : RulesView) (at : Start) (instant : ℤ) (symbol : ℕ) : Type 0 where
  pub within : IsWithin rules at instant symbol
  pub rule : length rules.alphabet ≤ symbol
  pub left_below : left_of rules symbol < symbol
  pub right_below : right_of rules symbol < symbol

-- one of two parts has it
pub record IsParted (rules : RulesView) (at : Start) (instant : ℤ) (left right : ℕ) : Type 0 where
  pub left_known : left < symbols_in rules
  pub right_known : right < symbols_in rules
  pub way : IsWayOf rules at (left ∷ right ∷ [])
  pub has : HasInstant at instant (length (values_of rules left) + length (values_of rules right))

-- a search is where it says to be
abbrev pub IsStage : RulesView → Start → ℤ → Stage → Type 0
IsStage rules at instant (Within symbol) = IsWithin rules at instant symbol
IsStage rules at instant (Touching symbol) = IsTouching rules at instant symbol
IsStage rules at instant (Parted left right) = IsParted rules at instant left right
IsStage rules at instant Found = ⊤
IsStage rules at instant Missed = ⊤

-- the same, of a whole search
abbrev pub IsDescent : RulesView → ℤ → Descent → Type 0
IsDescent rules instant descent = IsStage rules descent.at instant descent.stage

-- the stop that a search will come to, or has found
abbrev pub hit_from : RulesView → ℤ → Region → Start → Stage → Option Stop
hit_from rules instant region at (Within symbol) = hit_left rules instant instant region at (symbol ∷ [])
hit_from rules instant region at (Touching symbol) = hit_left rules instant instant region at (symbol ∷ [])
hit_from rules instant region at (Parted left right) = hit_left rules instant instant region at (left ∷ right ∷ [])
hit_from rules instant region at Found = Some (stop_at at.instant at.cell)
hit_from rules instant region at Missed = None

-- the same, of a whole search
abbrev pub hit_of : RulesView → ℤ → Region → Descent → Option Stop
hit_of rules instant region descent = hit_from rules instant region descent.at descent.stage

-- how many rules it still opens at most
abbrev pub reads_from : RulesView → ℤ → Region → Start → Stage → ℕ
reads_from rules instant region at (Within symbol) = touching_left rules instant instant region at (symbol ∷ [])
reads_from rules instant region at (Touching symbol) =
    1 + touching_left rules instant instant region at (left_of rules symbol ∷ right_of rules symbol ∷ [])
reads_from rules instant region at (Parted left right) =
    touching_left rules instant instant region at (left ∷ right ∷ [])
reads_from rules instant region at Found = 0
reads_from rules instant region at Missed = 0

-- the same, of a whole search
abbrev pub reads_of : RulesView → ℤ → Region → Descent → ℕ
reads_of rules instant region descent = reads_from rules instant region descent.at descent.stage

-- a rule is one that it may open yet
abbrev pub rules_from : RulesView → ℤ → Region → Start → Stage → ℕ → Bool
rules_from rules instant region at (Within symbol) rule =
    touching_rule rules at (symbol ∷ []) instant instant region rule
rules_from rules instant region at (Touching symbol) rule = symbol == rule
    || touching_rule rules at (left_of rules symbol ∷ right_of rules symbol ∷ []) instant instant region rule
rules_from rules instant region at (Parted left right) rule =
    touching_rule rules at (left ∷ right ∷ []) instant instant region rule
rules_from rules instant region at Found rule = false
rules_from rules instant region at Missed rule = false

-- the same, of a whole search
abbrev pub rules_of : RulesView → ℤ → Region → Descent → ℕ → Bool
rules_of rules instant region descent = rules_from rules instant region descent.at descent.stage

-- a rule is the one that it opens next
abbrev pub stage_rule : Stage → ℕ → Bool
stage_rule (Within symbol) rule = false
stage_rule (Touching symbol) rule = symbol == rule
stage_rule (Parted left right) rule = false
stage_rule Found rule = false
stage_rule Missed rule = false

-- the same, of a whole search
abbrev pub next_rule : Descent → ℕ → Bool
next_rule descent = stage_rule descent.stage

-- how a search ends
abbrev pub end_stage : Bool → Stage
end_stage true = Found
end_stage false = Missed

-- 1 for a search that is not over
abbrev pub stage_rest : Stage → ℕ
stage_rest (Within symbol) = 1
stage_rest (Touching symbol) = 1
stage_rest (Parted left right) = 1
stage_rest Found = 0
stage_rest Missed = 0

-- the same, of a whole search
abbrev pub rest_of : Descent → ℕ
rest_of descent = stage_rest descent.stage

-- 1 for one that has opened a rule
abbrev pub stage_parted : Stage → ℕ
stage_parted (Within symbol) = 0
stage_parted (Touching symbol) = 0
stage_parted (Parted left right) = 1
stage_parted Found = 0
stage_parted Missed = 0

-- the same, of a whole search
abbrev pub parted_of : Descent → ℕ
parted_of descent = stage_parted descent.stage

-- 1 for one that is to open a rule, or has opened it
abbrev pub stage_turning : Stage → ℕ
stage_turning (Within symbol) = 0
stage_turning (Touching symbol) = 1
stage_turning (Parted left right) = 1
stage_turning Found = 0
stage_turning Missed = 0

-- the same, of a whole search
abbrev pub turning_of : Descent → ℕ
turning_of descent = stage_turning descent.stage

-- what gets less with each turn, since the parts of a rule are below it
abbrev pub stage_weight : Stage → ℕ
stage_weight (Within symbol) = 3 * symbol + 3
stage_weight (Touching symbol) = 3 * symbol + 2
stage_weight (Parted left right) = 3 * max left right + 4
stage_weight Found = 0
stage_weight Missed = 0

-- the same, of a whole search
abbrev pub weight_of : Descent → ℕ
weight_of descent = stage_weight descent.stage

-- the first symbol of a log, where a search at an instant begins with it: the instant is after the anchor's
unfoldable pub first_needed : List ℕ → Start → ℤ → Option ℕ
first_needed log start instant = if le_z instant start.instant then None else slice_get log 0

-- how many reads it takes
abbrev pub first_reads : Option ℕ → ℕ
first_reads None = 0
first_reads (Some symbol) = 1

-- What a search in a log has done: the symbols from a place on have the stop, for one read each, and no more and no other
-- rules are to be opened than in all.
pub record IsPassing (rules : RulesView) (log : List ℕ) (start : Start) (instant : ℤ) (region : Region) (before i : ℕ)
    (at : Start) (steps : ℕ) : Type 0 where
  pub way : IsWayOf rules at (drop i log)
  pub after : at.instant <ℤ instant
  pub same : hit_left rules instant instant region at (drop i log)
      ≡ first_hit_of rules log start instant instant region
  pub cost : steps ≤ before + i
  pub fewer : touching_left rules instant instant region at (drop i log)
      ≤ touching_count rules start log instant instant region
  pub opens : RulesWithin (touching_rule rules at (drop i log) instant instant region)
      (touching_rule rules start log instant instant region)
