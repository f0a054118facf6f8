-- Which rules a search at one instant opens, by how far it has come.
use Rattle.std.proofs.Common.{◌≡◌, ℕ, ◌==◌, ℤ, Bool, true, false, arith}
use Rattle.std.proofs.lemmas.Bool.{or_left}
use Rattle.track_types.specs.declared.region.Region.{Region}
use Rattle.rule_store.specs.View.{RulesView}
use Rattle.log_cursor.specs.Descent.{end_stage, rules_from, stage_parted, stage_rule, stage_turning}
use Rattle.log_cursor.specs.Needs.{RulesWithin}
use Rattle.log_cursor.specs.declared.descent.Stage.{Stage}
use Rattle.log_cursor.specs.declared.descent.Stage.TheVariants.{Within, Touching, Parted, Found, Missed}
use Rattle.log_cursor.specs.declared.start.Start.{Start}

-- what a search opens next is one of the rules that it may open
pub next_rule-within : (rules : RulesView) (instant : ℤ) (region : Region) (at : Start) (stage : Stage) →
    RulesWithin (stage_rule stage) (rules_from rules instant region at stage)
next_rule-within rules instant region at (Within symbol) rule none = absurd (cc none)
next_rule-within rules instant region at (Touching symbol) rule is = or_left (symbol == rule) _ is
next_rule-within rules instant region at (Parted left right) rule none = absurd (cc none)
next_rule-within rules instant region at Found rule none = absurd (cc none)
next_rule-within rules instant region at Missed rule none = absurd (cc none)

-- one that has just opened a rule opens none next
pub next_rule-parted : (stage : Stage) → stage_parted stage ≡ stage_turning stage → (may : ℕ → Bool) →
    RulesWithin (stage_rule stage) may
next_rule-parted (Within symbol) same may rule none = absurd (cc none)
next_rule-parted (Touching symbol) same may rule is = absurd (omega (arith, same))
next_rule-parted (Parted left right) same may rule none = absurd (cc none)
next_rule-parted Found same may rule none = absurd (cc none)
next_rule-parted Missed same may rule none = absurd (cc none)

-- a search that is over opens none
pub end_stage-rules : (rules : RulesView) (instant : ℤ) (region : Region) (at : Start) (found : Bool) (may : ℕ → Bool) →
    RulesWithin (rules_from rules instant region at (end_stage found)) may
end_stage-rules rules instant region at true may rule none = absurd (cc none)
end_stage-rules rules instant region at false may rule none = absurd (cc none)
