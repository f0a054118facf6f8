-- Rules that were opened: how far each has been gone over, when a symbol is passed over and when one is opened, and that
-- one which is met again has no hit.
use Rattle.std.proofs.Common.{◌≡◌, ℕ, ◌<◌, ◌≤◌, ℤ, ◌+◌, ◌≤ℤ◌, ◌<ℤ◌, Bool, false, List, [], ◌∷◌, ◌++◌, length, Option, Some, None, replicate, All, append_assoc, refl, ap, sym, subst, ◌∙◌, arith, ◌⊎◌, inl, inr}
use Rattle.std.specs.Option.{IfSome, option_to_list}
use Rattle.std.proofs.lemmas.Grind.{flat_map-append}
use Rattle.std.proofs.lemmas.Int.{ints}
use Rattle.std.proofs.lemmas.List.{append-nil, get_or-replicate, length-replicate}
use Rattle.std.proofs.lemmas.List.Elements.{All-append, All-cons, All-head, All-nil, All-tail}
use Rattle.track_types.specs.Region.{in_region}
use Rattle.track_types.specs.declared.cell.Cell.{Cell}
use Rattle.track_types.specs.declared.cell_box.CellBox.{CellBox}
use Rattle.track_types.specs.declared.region.Region.{Region}
use Rattle.track_types.specs.declared.stop.Stop.{Stop}
use Rattle.rule_store.specs.View.{RulesView, symbols_in}
use Rattle.rule_store.specs.Cells.{cells_along, displacement_of, moved, present_in}
use Rattle.rule_store.specs.Expansion.{values_of}
use Rattle.rule_store.specs.Flaws.{left_of, right_of}
use Rattle.rule_store.specs.Log.{log_values}
use Rattle.rule_store.proofs.CellLemmas.{cells_along-append, moved-none}
use Rattle.rule_store.specs.Flaws.{AreRules}
use Rattle.rule_store.specs.declared.entry.Entry.{Entry}
use Rattle.log_cursor.specs.Needs.{RulesWithin}
use Rattle.log_cursor.specs.Opened.{AreGoneOver, Has, IfAny, IsGoneOver, IsOutside, IsSearching, no_rules, rule_at}
use Rattle.log_cursor.specs.Pending.{PendingView}
use Rattle.log_cursor.specs.Start.{IsWayOf, start_past}
use Rattle.log_cursor.specs.Touching.{IsDrawnIn, IsHitOf, start_of, touches_at, touching_rule}
use Rattle.log_cursor.specs.Turn.{IsWalking, has_hull, is_stop_in}
use Rattle.log_cursor.specs.Walk.{opened_left, stops_left}
use Rattle.log_cursor.specs.declared.opened.RuleAt.{RuleAt}
use Rattle.log_cursor.specs.declared.start.Start.{Start}
use Rattle.log_cursor.proofs.HitLemmas.{own_stops-outside}
use Rattle.log_cursor.proofs.RuleLemmas.{log_values-parts, parts-below}
use Rattle.log_cursor.proofs.SearchLemmas.{IsDrawnIn-after}
use Rattle.log_cursor.proofs.TouchLemmas.{moved-displaced, opened_left-count}
use Rattle.log_cursor.proofs.TurnLemmas.{IsTurn, past_is, turn-before, turn-over, turn-rules}

-- a new table has no rule
abbrev no_rule : Option RuleAt
no_rule = None

pub Has-none : (many : ℕ) (opened : RuleAt) → Has (replicate many None) opened → ⊥
Has-none many opened has =
    let within : has.0 < many = omega (arith, has.1, length-replicate many no_rule) in
    let none : None ≡ Some opened = sym (get_or-replicate many has.0 None (Some opened) within) ∙ has.2 in
    absurd (cc)

-- values one after the other
IsOutside-append : (region : Region) (cell : Cell) (xs ys : List ℕ) → IsOutside region cell xs →
    IsOutside region (moved cell (displacement_of xs)) ys → IsOutside region cell (xs ++ ys)
unfolding IsOutside
IsOutside-append region cell xs ys front back =
    let next = moved cell (displacement_of xs) in
    let test : Cell → Type 0 = λ c. in_region region c ≡ false in
    subst (All test) (sym (ap present_in (cells_along-append cell xs ys)
    ∙ flat_map-append option_to_list (cells_along cell xs) (cells_along next ys)))
    (All-append test (present_in (cells_along cell xs)) (present_in (cells_along next ys)) front back)

IsOutside-none : (region : Region) (cell : Cell) → IsOutside region cell []
unfolding IsOutside cells_along
IsOutside-none region cell = All-nil (λ c. in_region region c ≡ false)

-- what holds at all holds where some symbols are left
if_any : (symbols : List ℕ) (claim : Type 0) → claim → IfAny symbols claim
if_any [] claim it = tt
if_any (symbol ∷ symbols) claim it = it

module _ (rules : RulesView) (region : Region) (from : ℤ) (symbol : ℕ) (now : List ℕ) (at : Start) where
  -- a rule that was opened at the cell where it is met again has been gone over whole, since it is not below itself
  whole : (behind ahead later : List ℕ) → values_of rules symbol ≡ behind ++ log_values rules ahead →
      All (λ s. s < symbol) ahead → symbol ∷ now ≡ ahead ++ later → IsOutside region at.cell behind →
      IsOutside region at.cell (values_of rules symbol)
  unfolding log_values
  whole behind [] later values below next outside =
      subst (IsOutside region at.cell) (sym (values ∙ append-nil behind)) outside
  whole behind (first ∷ ahead) later values below next outside =
      let same : symbol ≡ first = cc in
      let low : first < symbol = All-head (λ s. s < symbol) first ahead below in
      absurd (omega (arith, same, low))

  pub gone_over-again : IsGoneOver rules region from (symbol ∷ now) at (rule_at symbol at.cell) →
      IsOutside region at.cell (values_of rules symbol)
  gone_over-again gone =
      whole gone.behind gone.ahead gone.later gone.values gone.below gone.next gone.outside

  module _ (opened : RuleAt) where
    -- where the next symbol is passed over, since it has no cell of the region or ends before the window, what has been
    -- gone over grows by it
    further : (behind ahead later : List ℕ) → values_of rules opened.rule ≡ behind ++ log_values rules ahead →
        All (λ s. s < opened.rule) ahead → symbol ∷ now ≡ ahead ++ later → IsOutside region opened.cell behind →
        IfAny ahead ((at.cell ≡ moved opened.cell (displacement_of behind)) × (from ≤ℤ at.instant)) →
        IsOutside region at.cell (values_of rules symbol)
        ⊎ ((start_past at (values_of rules symbol)).instant <ℤ from) →
        IsGoneOver rules region from now (start_past at (values_of rules symbol)) opened
    unfolding log_values
    further behind [] later values below next outside here passed = record {
      behind = behind;
      ahead = [];
      later = now;
      values = values;
      below = below;
      next = refl;
      outside = outside;
      here = tt;
    }
    further behind (first ∷ ahead) later values below next outside here (inr ended) = absurd (omega (arith, ints, here.1, ended))
    further behind (first ∷ ahead) later values below next outside here (inl apart) =
        let same : symbol ≡ first = cc in
        let rest : now ≡ ahead ++ later = cc in
        let own = values_of rules symbol in
        let there : moved at.cell (displacement_of own) ≡ moved opened.cell (displacement_of (behind ++ own)) =
        ap (λ c. moved c (displacement_of own)) here.0 ∙ sym (moved-displaced opened.cell behind own) in
        record {
          behind = behind ++ own;
          ahead = ahead;
          later = later;
          values = rw same (values ∙ sym (append_assoc behind (values_of rules first) (log_values rules ahead)));
          below = All-tail (λ s. s < opened.rule) first ahead below;
          next = rest;
          outside = IsOutside-append region opened.cell behind own outside
              (subst (λ c. IsOutside region c own) here.0 apart);
          here = if_any ahead _ (there, omega (arith, ints, here.1));
        }

    pub gone_over-past : IsGoneOver rules region from (symbol ∷ now) at opened →
        IsOutside region at.cell (values_of rules symbol)
        ⊎ ((start_past at (values_of rules symbol)).instant <ℤ from) →
        IsGoneOver rules region from now (start_past at (values_of rules symbol)) opened
    gone_over-past gone =
        further gone.behind gone.ahead gone.later gone.values gone.below gone.next gone.outside gone.here

  -- a rule that comes next gives way to its parts
  module _ (rule : length rules.alphabet ≤ symbol) (known : symbol < symbols_in rules)
      (left_below : left_of rules symbol < symbol) (right_below : right_of rules symbol < symbol) where
    abbrev parts : List ℕ → List ℕ
    parts later = left_of rules symbol ∷ right_of rules symbol ∷ later

    inner : (opened : RuleAt) (behind ahead later : List ℕ) →
        values_of rules opened.rule ≡ behind ++ log_values rules ahead →
        All (λ s. s < opened.rule) ahead → symbol ∷ now ≡ ahead ++ later → IsOutside region opened.cell behind →
        IfAny ahead ((at.cell ≡ moved opened.cell (displacement_of behind)) × (from ≤ℤ at.instant)) →
        IsGoneOver rules region from (parts now) at opened
    inner opened behind [] later values below next outside here = record {
      behind = behind;
      ahead = [];
      later = parts now;
      values = values;
      below = below;
      next = refl;
      outside = outside;
      here = tt;
    }
    inner opened behind (first ∷ ahead) later values below next outside here =
        let same : symbol ≡ first = cc in
        let rest : now ≡ ahead ++ later = cc in
        let low : first < opened.rule = All-head (λ s. s < opened.rule) first ahead below in
        let high = All-tail (λ s. s < opened.rule) first ahead below in
        record {
          behind = behind;
          ahead = parts ahead;
          later = later;
          values = (rw (← same) at values)
              ∙ ap (λ v. behind ++ v) (log_values-parts rules symbol rule known left_below right_below ahead);
          below = All-cons (λ s. s < opened.rule) (left_of rules symbol) (right_of rules symbol ∷ ahead)
              (omega (arith, same, low, left_below))
              (All-cons (λ s. s < opened.rule) (right_of rules symbol) ahead (omega (arith, same, low, right_below)) high);
          next = ap parts rest;
          outside = outside;
          here = here;
        }

    pub gone_over-parts : (opened : RuleAt) → IsGoneOver rules region from (symbol ∷ now) at opened →
        IsGoneOver rules region from (parts now) at opened
    gone_over-parts opened gone =
        inner opened gone.behind gone.ahead gone.later gone.values gone.below gone.next gone.outside gone.here

    -- of itself nothing has been gone over
    pub gone_over-new : from ≤ℤ at.instant → IsGoneOver rules region from (parts now) at (rule_at symbol at.cell)
    unfolding log_values displacement_of
    gone_over-new within = record {
      behind = [];
      ahead = parts [];
      later = now;
      values = sym (append-nil (values_of rules symbol))
          ∙ log_values-parts rules symbol rule known left_below right_below [];
      below = All-cons (λ s. s < symbol) (left_of rules symbol) (right_of rules symbol ∷ []) left_below
          (All-cons (λ s. s < symbol) (right_of rules symbol) [] right_below (All-nil (λ s. s < symbol)));
      next = refl;
      outside = IsOutside-none region at.cell;
      here = (sym (moved-none at.cell), within);
    }

-- a symbol that has no cell of the region, or ends before the window, is passed over
pub turn-past : (region : Region) {may : Cell → Option CellBox → Bool} {rules : RulesView} {stops : List Stop} {budget : ℕ}
    {from to : ℤ} {old now : PendingView} {at next : Start} {steps reads : ℕ} {entry : Entry} →
    IsTurn (is_stop_in region) may rules stops budget from to old now at next steps reads entry →
    IsOutside region at.cell (values_of rules entry.symbol) ⊎ (next.instant <ℤ from) →
    IsWalking (is_stop_in region) may rules stops budget from to now next reads
turn-past region {may} {rules} {stops} {budget} {from} {to} {old} {now} {at} {next} {steps} {reads} {entry} turn (inl apart) =
    turn-over turn (own_stops-outside region rules at entry.symbol from to apart)
turn-past region turn (inr ended) = turn-before turn ended

-- a turn of a search that keeps rules
module _ {region : Region} {rules : RulesView} {stops : List Stop} {budget all : ℕ} {from to : ℤ} {table : List (Option RuleAt)}
    {old now : PendingView} {at next : Start} {steps reads : ℕ} {entry : Entry}
    (turn : IsTurn (is_stop_in region) (touches_at region) rules stops budget from to old now at next steps reads entry)
    (draw : IsTurn (is_stop_in region) has_hull rules stops all from to old now at next steps reads entry)
    (gone : AreGoneOver rules region from table old.symbols at) where
  abbrev past : Start
  past = start_past at (values_of rules entry.symbol)

  here : (opened : RuleAt) → Has table opened → IsGoneOver rules region from (entry.symbol ∷ now.symbols) at opened
  here opened has =
      subst (λ symbols. IsGoneOver rules region from symbols at opened) turn.taken.symbols (gone.each opened has)

  -- a rule that it has kept is met again
  pub turn-again : Has table (rule_at entry.symbol at.cell) → IsOutside region at.cell (values_of rules entry.symbol)
  turn-again has =
      gone_over-again rules region from entry.symbol now.symbols at (here (rule_at entry.symbol at.cell) has)

  -- a symbol that has no cell of the region, or ends before the window, is passed over
  pub turn-passed : IsOutside region at.cell (values_of rules entry.symbol) ⊎ (next.instant <ℤ from) →
      IsSearching region rules stops budget all from to table now next reads
  turn-passed passed = record {
    walking = turn-past region turn passed;
    drawing = turn-past region draw passed;
    gone = record {
      each = λ opened has.
          subst (λ n. IsGoneOver rules region from now.symbols n opened) (sym (past_is turn))
          (gone_over-past rules region from entry.symbol now.symbols at opened (here opened has)
          (subst (λ (n : Start). IsOutside region at.cell (values_of rules entry.symbol) ⊎ (n.instant <ℤ from))
          (past_is turn) passed));
    };
  }

  -- a rule is opened, and may be kept where it begins in the window
  pub turn-kept : AreRules now.rules → length now.rules.alphabet ≤ entry.symbol → (later : List ℕ) →
      later ≡ left_of now.rules entry.symbol ∷ right_of now.rules entry.symbol ∷ now.symbols →
      (kept : List (Option RuleAt)) →
      ((opened : RuleAt) → Has kept opened →
      ((opened ≡ rule_at entry.symbol at.cell) × (from ≤ℤ at.instant)) ⊎ Has table opened) →
      AreGoneOver rules region from kept later at
  turn-kept sound rule later symbols kept among =
      let is_rule : length rules.alphabet ≤ entry.symbol = rw (turn-rules turn) at rule in
      let known : entry.symbol < symbols_in rules = rw turn.walking.same at turn.taken.roomy.known in
      let below = parts-below rules entry.symbol (rw (turn-rules turn) at sound) is_rule known in
      let are : later ≡ left_of rules entry.symbol ∷ right_of rules entry.symbol ∷ now.symbols =
      rw (turn-rules turn) at symbols in
      record {
        each = λ opened has.
            subst (λ symbols. IsGoneOver rules region from symbols at opened) (sym are) (elim (among opened has) [
              | inl new ↦
                  subst (IsGoneOver rules region from _ at) (sym new.0)
                  (gone_over-new rules region from entry.symbol now.symbols at is_rule known below.0 below.1 new.1)
              | inr before ↦
                  gone_over-parts rules region from entry.symbol now.symbols at is_rule known below.0 below.1 opened
                  (here opened before)
            ]);
      }

-- a search begins with no rule
pub AreGoneOver-none : (rules : RulesView) (region : Region) (from : ℤ) (table : List (Option RuleAt)) (symbols : List ℕ)
    (at : Start) → table ≡ no_rules → AreGoneOver rules region from table symbols at
AreGoneOver-none rules region from table symbols at none = record {
  each = λ opened has. absurd (Has-none 256 opened (subst (λ t. Has t opened) none has));
}

-- a search goes on from where a walk has come without a hit
module _ (region : Region) (from to : ℤ) (start at : Start) (first now later : PendingView) (begun steps reads : ℕ)
    (walking : IsWalking (is_stop_in region) has_hull first.rules (stops_left first.rules from to start first.symbols)
    (begun + (first.unread + opened_left first.rules from to start first.symbols)) from to now at steps)
    (opens : RulesWithin (touching_rule first.rules at now.symbols from to region)
    (touching_rule first.rules start first.symbols from to region)) where
  pub IsHitOf-after : (found : Option Stop) → IfSome found (IsHitOf region from to at now later steps reads) →
      IfSome found (IsHitOf region from to start first later begun reads)
  IsHitOf-after None found = tt
  IsHitOf-after (Some hit) found =
      let left = stops_left first.rules from to (start_of hit) later.symbols in
      let drawn : IsDrawnIn region (stops_left first.rules from to at now.symbols) left (Some hit) =
      rw walking.same at found.drawn in
      let more : reads + (later.unread + opened_left first.rules from to (start_of hit) later.symbols)
      ≤ steps + (now.unread + opened_left first.rules from to at now.symbols) = rw walking.same at found.reads in
      let way : IsWayOf first.rules (start_of hit) later.symbols = rw walking.same at found.way in
      let beyond : RulesWithin (touching_rule first.rules (start_of hit) later.symbols from to region)
      (touching_rule first.rules at now.symbols from to region) = rw walking.same at found.opens in
      record {
        drawn = subst (λ stops. IsDrawnIn region stops left (Some hit)) (sym walking.all)
            (IsDrawnIn-after region walking.passed (stops_left first.rules from to at now.symbols) left (Some hit)
            walking.unwanted drawn);
        way = way;
        opens = λ rule is. opens rule (beyond rule is);
        reads = omega (arith, more, walking.reads, opened_left-count first.rules from to at now.symbols);
      }
