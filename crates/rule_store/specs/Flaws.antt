-- The first flaw of an alphabet, rules and symbols that cannot be those of an index.
use Rattle.std.specs.Prelude.{◌≡◌, ℕ, ◌+◌, ◌-◌, ◌^◌, Bool, false, not, ◌&&◌, ◌||◌, nat_le, nat_lt, List, length, find, slice_index, slice_index_or, Option, Some, None, ⊤}
use Rattle.std.specs.Option.{option_map, option_or}
use Rattle.std.specs.List.{range_with_len}
use Rattle.spiral_code.specs.Spiral.{ring_of}
use Rattle.track_types.specs.Flaws.{flaw_in}
use Rattle.track_types.specs.declared.cell_box.CellBox.{CellBox}
use Rattle.track_types.specs.declared.flaw.Kind.TheVariants as kind
use Rattle.track_types.specs.declared.flaw.Section.TheVariants as section
use Rattle.track_types.specs.declared.format_fault.FormatFault.{FormatFault}
use Rattle.track_types.specs.declared.format_fault.FormatFault.TheVariants as format
use Rattle.rule_store.specs.View.{RulesView, AreShapedRules, symbols_in}
use Rattle.rule_store.specs.Cells.{movement_of}
use Rattle.rule_store.specs.Entry.{entry_of}
use Rattle.rule_store.specs.declared.entry.Entry.{Entry}
use Rattle.rule_store.specs.declared.fault.RuleFault.{RuleFault}
use Rattle.rule_store.specs.declared.fault.RuleFault.TheVariants as fault

-- how far apart two cells of a grid of this height may be in each axis
abbrev pub reach_limit : ℕ → ℕ
reach_limit height = 2 ^ height - 1

-- the value is a movement that leads from each cell out of the grid: its ring is above the limit
abbrev pub leads_out : ℕ → ℕ → Bool
leads_out height value = nat_lt (reach_limit height) (ring_of (movement_of value).0 (movement_of value).1)

-- the box, moved to a start in the grid, can only lie outside: a bound is more than the limit away from 0
abbrev pub box_passes : ℕ → Option CellBox → Bool
box_passes height None = false
box_passes height (Some box) =
    nat_lt (reach_limit height) (ring_of box.x1 box.y1) || nat_lt (reach_limit height) (ring_of box.x2 box.y2)

-- the entry lasts longer than what follows an anchor in its period, or its displacement or box passes the limit
abbrev pub is_far : ℕ → ℕ → Entry → Bool
is_far height period entry = nat_lt (period - 1) entry.duration
    || (nat_lt (reach_limit height) (ring_of entry.dx entry.dy) || box_passes height entry.hull)

-- the parts of rule j
abbrev pub rule_parts : List (ℕ × ℕ) → ℕ → ℕ × ℕ
rule_parts rules j = slice_index_or rules j (0, 0)

-- the left part of a rule, by its symbol
abbrev pub left_of : RulesView → ℕ → ℕ
left_of view symbol = (rule_parts view.rules (symbol - length view.alphabet)).0

-- the right part of a rule, by its symbol
abbrev pub right_of : RulesView → ℕ → ℕ
right_of view symbol = (rule_parts view.rules (symbol - length view.alphabet)).1

-- the parts of rule j are below its own symbol
abbrev pub are_below : ℕ → ℕ × ℕ → Bool
are_below symbol parts = nat_lt parts.0 symbol && nat_lt parts.1 symbol

-- rule j has a part that is not below its own symbol, or its entry is too long or too far
unfoldable pub is_rule_flawed : RulesView → ℕ → Bool
is_rule_flawed view j = let symbol = length view.alphabet + j in
    not (are_below symbol (rule_parts view.rules j)) || is_far view.height view.period (entry_of view symbol)

-- the first value that is flawed
unfoldable pub code_flaw : ℕ → List ℕ → Option ℕ
code_flaw height alphabet =
    find (λ i. leads_out height (slice_index alphabet i)) (range_with_len 0 (length alphabet))

-- the first rule that is flawed
unfoldable pub rule_flaw : RulesView → Option ℕ
rule_flaw view = find (is_rule_flawed view) (range_with_len 0 (length view.rules))

-- the first stored symbol that is flawed
unfoldable pub symbol_flaw : ℕ → List ℕ → Option ℕ
symbol_flaw many symbols =
    find (λ i. nat_le many (slice_index symbols i)) (range_with_len 0 (length symbols))

-- the first flaw: values before rules, and rules before stored symbols
abbrev pub rules_flaw : RulesView → Option RuleFault
rules_flaw view =
    option_or (option_map fault.Code (code_flaw view.height view.alphabet))
    (option_or (option_map fault.Rule (rule_flaw view))
    (option_map fault.Symbol (symbol_flaw (symbols_in view) view.symbols)))

-- a fault is this flaw; memory may be wanting for any lists
abbrev pub IsRuleFaultFor : Option RuleFault → RuleFault → Type 0
IsRuleFaultFor first (fault.Code index) = first ≡ Some (fault.Code index)
IsRuleFaultFor first (fault.Rule rule) = first ≡ Some (fault.Rule rule)
IsRuleFaultFor first (fault.Symbol index) = first ≡ Some (fault.Symbol index)
IsRuleFaultFor first fault.Memory = ⊤

-- what a fault of the rules is in an index
abbrev pub format_fault_of_rules : RuleFault → FormatFault
format_fault_of_rules (fault.Code index) = format.Flaw (flaw_in 0 section.Alphabet kind.Code index)
format_fault_of_rules (fault.Rule rule) = format.Flaw (flaw_in 0 section.Rules kind.Rule rule)
format_fault_of_rules (fault.Symbol index) = format.Flaw (flaw_in 0 section.Log kind.Symbol index)
format_fault_of_rules fault.Memory = format.Memory

-- what holds of every rule store: its lists are shaped and have no flaw
pub record AreRules (view : RulesView) : Type 0 where
  pub shaped : AreShapedRules view
  pub flawless : rules_flaw view ≡ None
