-- A search at one instant: the symbols before it are passed, and of the two parts of a rule one has it.
use Rattle.std.proofs.Common.{◌≡◌, ℕ, suc, drop, ◌+◌, ◌<◌, ◌≤◌, ℤ, ◌≤ℤ◌, ◌<ℤ◌, ◌⊎◌, ◌==◌, Bool, true, false, IsTrue, List, [], ◌∷◌, ◌++◌, length, Option, Some, None, inl, inr, refl, ap, add-one, sym, subst, ◌∙◌, arith}
use Rattle.std.specs.Bool.{if◌then◌else◌}
use Rattle.std.specs.Int.Signed.{le_z}
use Rattle.std.specs.Option.{is_some}
use Rattle.std.specs.Prelude.{slice_index}
use Rattle.std.proofs.Math.ListN.{drop_of_length-le}
use Rattle.std.proofs.Math.Seq.{drop-cons}
use Rattle.std.proofs.lemmas.Bool.{cases_Bool, or_cases}
use Rattle.std.proofs.lemmas.Bool.Decides.{nat_tests}
use Rattle.std.proofs.lemmas.Int.{ints}
use Rattle.std.proofs.lemmas.List.{append-nil, length-append}
use Rattle.track_types.specs.Region.{in_region, is_between}
use Rattle.track_types.specs.declared.region.Region.{Region}
use Rattle.track_types.specs.declared.stop.Stop.{Stop}
use Rattle.track_types.proofs.RegionLemmas.{le_z-is}
use Rattle.rule_store.specs.View.{RulesView, symbols_in}
use Rattle.rule_store.specs.Boxes.{bounding_box_of}
use Rattle.rule_store.specs.Entry.{entry_of}
use Rattle.rule_store.specs.Expansion.{values_of}
use Rattle.rule_store.specs.Flaws.{left_of, right_of}
use Rattle.rule_store.specs.Log.{in_window, log_values, stop_at}
use Rattle.rule_store.specs.declared.entry.Entry.{Entry}
use Rattle.log_cursor.specs.Descent.{IsParted, IsPassing, IsWithin, end_stage, hit_from, rules_from}
use Rattle.log_cursor.specs.Needs.{RulesWithin}
use Rattle.log_cursor.specs.Start.{IsHullAsked, IsStart, IsWayOf, start_after, start_past}
use Rattle.log_cursor.specs.Touching.{first_among, first_hit_of, hit_left, touches_at, touching_count, touching_left, touching_rule}
use Rattle.log_cursor.specs.Turn.{opening_count, opening_rule}
use Rattle.log_cursor.specs.Walk.{stops_left}
use Rattle.log_cursor.specs.declared.descent.Stage.TheVariants.{Within, Touching}
use Rattle.log_cursor.specs.declared.start.Start.{Start}
use Rattle.log_cursor.proofs.HitLemmas.{IsHullAsked-along, held-terminal, outside-along, own_stops-outside, touches_at-some}
use Rattle.log_cursor.proofs.RuleLemmas.{values_of-parts}
use Rattle.log_cursor.proofs.SearchLemmas.{first_hit_of-later}
use Rattle.log_cursor.proofs.StackLemmas.{own_entry, own_symbol}
use Rattle.log_cursor.proofs.StopLemmas.{is_between-before}
use Rattle.log_cursor.proofs.TouchLemmas.{opening_count-first, opening_count-later, opening_count-parts, opening_rule-first, opening_rule-later, opening_rule-own, opening_rule-parts}
use Rattle.log_cursor.proofs.WalkLemmas.{own_stops, own_stops-before, own_stops-terminal, stops_left-cons, stops_left-end, stops_left-over, stops_left-parts, window-none}
use Rattle.log_cursor.proofs.WayLemmas.{IsWay-front, IsWayOf-first, IsWayOf-parts, IsWayOf-rest, hull_is, next-way, start_after-is}

module _ (rules : RulesView) (instant : ℤ) (region : Region) where
  abbrev hit : Start → List ℕ → Option Stop
  hit start symbols = hit_left rules instant instant region start symbols

  abbrev count : Start → List ℕ → ℕ
  count start symbols = touching_left rules instant instant region start symbols

  abbrev opens : Start → List ℕ → ℕ → Bool
  opens start symbols = touching_rule rules start symbols instant instant region

  -- no symbols have no hit
  pub hit-end : (start : Start) → hit start [] ≡ None
  hit-end start = ap (first_among region) (stops_left-end rules instant instant start [] refl)

  module _ (start : Start) (symbol : ℕ) where
    abbrev past : Start
    past = start_past start (values_of rules symbol)

    -- the hit after a symbol is that of the symbols after it
    pub hit-past : (log : List ℕ) → past.instant <ℤ instant → hit start (symbol ∷ log) ≡ hit past log
    hit-past log late =
        ap (first_among region) (stops_left-cons rules instant instant start symbol log
        ∙ ap (λ s. s ++ stops_left rules instant instant past log) (own_stops-before rules instant instant start symbol late))

    -- within a symbol it is the symbol's own
    pub hit-within : (log : List ℕ) → instant ≤ℤ past.instant → hit start (symbol ∷ log) ≡ hit start (symbol ∷ [])
    hit-within log early =
        ap (first_among region) (
        stops_left-cons rules instant instant start symbol log
        ∙ ap (λ s. own_stops rules instant instant start symbol ++ s) (stops_left-over rules instant instant past log early)
        ∙ ap (λ s. own_stops rules instant instant start symbol ++ s)
        (sym (stops_left-over rules instant instant past [] early))
        ∙ sym (stops_left-cons rules instant instant start symbol [])
        )

    own : hit start (symbol ∷ []) ≡ first_among region (own_stops rules instant instant start symbol)
    own =
        ap (first_among region) (
        stops_left-cons rules instant instant start symbol []
        ∙ ap (λ s. own_stops rules instant instant start symbol ++ s)
        (stops_left-end rules instant instant past [] refl)
        ∙ append-nil (own_stops rules instant instant start symbol)
        )

    -- there is none where its placed box has no cell of the region
    pub hit-outside : touches_at region start.cell (bounding_box_of (values_of rules symbol)) ≡ false →
        hit start (symbol ∷ []) ≡ None
    hit-outside apart =
        own ∙ own_stops-outside region rules start symbol instant instant
        (outside-along region start.cell (values_of rules symbol) (bounding_box_of (values_of rules symbol)) refl apart)

    -- a terminal whose placed box has one leads to it
    pub hit-terminal : symbol < length rules.alphabet →
        touches_at region start.cell (bounding_box_of (values_of rules symbol)) ≡ true →
        start.instant <ℤ instant → instant ≤ℤ past.instant →
        hit start (symbol ∷ []) ≡ Some (stop_at past.instant past.cell)
    hit-terminal terminal touches late early =
        let some = touches_at-some region start.cell (bounding_box_of (values_of rules symbol)) touches in
        own ∙ ap (first_among region)
        (own_stops-terminal rules instant instant start symbol terminal some late early)
        ∙ rw (held-terminal region rules start symbol terminal touches) refl

    -- the symbols after it open no more than all do
    pub count-later : (log : List ℕ) → count past log ≤ count start (symbol ∷ log)
    unfolding touching_count opening_count
    count-later log = opening_count-later rules instant instant (touches_at region) start symbol log

    -- neither does it alone
    pub count-first : (log : List ℕ) → count start (symbol ∷ []) ≤ count start (symbol ∷ log)
    unfolding touching_count opening_count
    count-first log = opening_count-first rules instant instant (touches_at region) start symbol log

    -- nor do they open others
    pub opens-later : (log : List ℕ) → RulesWithin (opens past log) (opens start (symbol ∷ log))
    unfolding touching_rule opening_rule
    opens-later log = opening_rule-later rules instant instant (touches_at region) start symbol log

    pub opens-first : (log : List ℕ) → RulesWithin (opens start (symbol ∷ [])) (opens start (symbol ∷ log))
    unfolding touching_rule opening_rule
    opens-first log = opening_rule-first rules instant instant (touches_at region) start symbol log

  -- a rule that was opened
  module _ (start : Start) (symbol : ℕ) (rule : length rules.alphabet ≤ symbol) (known : symbol < symbols_in rules)
      (left_below : left_of rules symbol < symbol) (right_below : right_of rules symbol < symbol) where
    -- has the hit of its two parts
    pub hit-parts : hit start (symbol ∷ []) ≡ hit start (left_of rules symbol ∷ right_of rules symbol ∷ [])
    hit-parts =
        ap (first_among region) (stops_left-parts rules instant instant start symbol [] rule known left_below right_below)

    -- and counts one, and them
    pub count-parts : touches_at region start.cell (bounding_box_of (values_of rules symbol)) ≡ true →
        start.instant <ℤ instant → instant ≤ℤ (start_past start (values_of rules symbol)).instant →
        count start (symbol ∷ []) ≡ suc (count start (left_of rules symbol ∷ right_of rules symbol ∷ []))
    unfolding touching_count opening_count
    count-parts touches late early =
        opening_count-parts rules instant instant (touches_at region) symbol [] rule known left_below right_below start
        (omega (arith, ints)) late early touches

    -- it is one of those that are opened, and so are those of its parts
    pub opens-own : touches_at region start.cell (bounding_box_of (values_of rules symbol)) ≡ true →
        start.instant <ℤ instant → instant ≤ℤ (start_past start (values_of rules symbol)).instant →
        IsTrue (opens start (symbol ∷ []) symbol)
    unfolding touching_rule opening_rule
    opens-own touches late early =
        opening_rule-own rules instant instant (touches_at region) symbol [] rule known left_below right_below start
        (omega (arith, ints)) late early touches

    pub opens-parts : RulesWithin (opens start (left_of rules symbol ∷ right_of rules symbol ∷ []))
        (opens start (symbol ∷ []))
    unfolding touching_rule opening_rule
    opens-parts = opening_rule-parts rules instant instant (touches_at region) symbol [] rule known left_below right_below start

-- the parts of a rule that has an instant
pub parted : (rules : RulesView) (at : Start) (instant : ℤ) (symbol : ℕ) → length rules.alphabet ≤ symbol →
    left_of rules symbol < symbol → right_of rules symbol < symbol → IsWithin rules at instant symbol →
    IsParted rules at instant (left_of rules symbol) (right_of rules symbol)
parted rules at instant symbol rule left_below right_below within =
    let sum = ap length (values_of-parts rules symbol rule within.known left_below right_below) in
    let both = length-append (values_of rules (left_of rules symbol)) (values_of rules (right_of rules symbol)) in
    record {
      left_known = omega (arith, left_below, within.known);
      right_known = omega (arith, right_below, within.known);
      way = IsWayOf-parts rules symbol [] rule within.known left_below right_below at within.way;
      has = record { after = within.has.after; within = omega (arith, ints, sum, both, within.has.within) };
    }

-- what is picked of two parts: where the left one begins, and it, if it reaches the instant
abbrev pub IsPicked : Start → Start → ℤ → ℕ → ℕ → Start → ℕ → Type 0
IsPicked at middle instant left right next symbol =
    ((instant ≤ℤ middle.instant) × ((next ≡ at) × (symbol ≡ left)))
    ⊎ ((middle.instant <ℤ instant) × ((next ≡ middle) × (symbol ≡ right)))

pub picked-by : (at middle next : Start) (instant low high : ℤ) (left right symbol : ℕ) → low ≡ instant →
    high ≡ middle.instant → next ≡ (if le_z low high then at else middle) →
    symbol ≡ (if le_z low high then left else right) → IsPicked at middle instant left right next symbol
picked-by at middle next instant low high left right symbol low_is high_is start one =
    elim (cases_Bool (le_z low high)) [
      | inl early ↦ inl (omega (arith, ints, le_z-is low high early, low_is, high_is), (rw early at start, rw early at one))
      | inr late ↦ inr (grind (arith, ints, late, low_is, high_is), (rw late at start, rw late at one))
    ]

-- of two parts one has the instant
module _ (rules : RulesView) (at : Start) (instant : ℤ) (left right : ℕ) (is : IsParted rules at instant left right)
    (entry : Entry) (entry_is : entry ≡ entry_of rules left) where
  leads : start_after at entry ≡ start_past at (values_of rules left)
  leads = start_after-is rules at entry left entry_is

  pub parted-middle : IsStart (start_after at entry)
  parted-middle = rw leads (IsWayOf-rest rules left (right ∷ []) at is.way).start_is

  module _ (middle : Start) (middle_is : middle ≡ start_after at entry) where
    past_is : middle ≡ start_past at (values_of rules left)
    past_is = middle_is ∙ leads

    pub parted-left : instant ≤ℤ middle.instant → IsWithin rules at instant left
    parted-left early = record {
      known = is.left_known;
      way = IsWayOf-first rules left (right ∷ []) at is.way;
      has = record { after = is.has.after; within = rw past_is at early };
    }

    pub parted-right : middle.instant <ℤ instant → IsWithin rules middle instant right
    parted-right late = record {
      known = is.right_known;
      way = rw past_is (IsWayOf-rest rules left (right ∷ []) at is.way);
      has = record { after = late; within = rw past_is (omega (arith, ints, is.has.within)) };
    }

    pub picked-within : (next : Start) (symbol : ℕ) → IsPicked at middle instant left right next symbol →
        IsWithin rules next instant symbol
    picked-within next symbol picked = elim picked [
      | inl early ↦ rw (early.1.0, early.1.1) (parted-left early.0)
      | inr late ↦ rw (late.1.0, late.1.1) (parted-right late.0)
    ]

    module _ (region : Region) where
      pub hit-left : instant ≤ℤ middle.instant →
          hit_left rules instant instant region at (left ∷ []) ≡ hit_left rules instant instant region at (left ∷ right ∷ [])
      hit-left early = sym (hit-within rules instant region at left (right ∷ []) (rw past_is at early))

      pub hit-right : middle.instant <ℤ instant →
          hit_left rules instant instant region middle (right ∷ [])
          ≡ hit_left rules instant instant region at (left ∷ right ∷ [])
      hit-right late = rw past_is (sym (hit-past rules instant region at left (right ∷ []) (rw past_is at late)))

      pub count-left : touching_left rules instant instant region at (left ∷ [])
          ≤ touching_left rules instant instant region at (left ∷ right ∷ [])
      count-left = count-first rules instant region at left (right ∷ [])

      pub count-right : touching_left rules instant instant region middle (right ∷ [])
          ≤ touching_left rules instant instant region at (left ∷ right ∷ [])
      count-right = rw past_is (count-later rules instant region at left (right ∷ []))

      module _ (next : Start) (symbol : ℕ) (picked : IsPicked at middle instant left right next symbol) where
        pub picked-hit : hit_left rules instant instant region next (symbol ∷ [])
            ≡ hit_left rules instant instant region at (left ∷ right ∷ [])
        picked-hit = elim picked [
          | inl early ↦ rw (early.1.0, early.1.1) (hit-left early.0)
          | inr late ↦ rw (late.1.0, late.1.1) (hit-right late.0)
        ]

        pub picked-count : touching_left rules instant instant region next (symbol ∷ [])
            ≤ touching_left rules instant instant region at (left ∷ right ∷ [])
        picked-count = elim picked [
          | inl early ↦ rw (early.1.0, early.1.1) count-left
          | inr late ↦ rw (late.1.0, late.1.1) count-right
        ]

        pub picked-opens : RulesWithin (touching_rule rules next (symbol ∷ []) instant instant region)
            (touching_rule rules at (left ∷ right ∷ []) instant instant region)
        picked-opens = elim picked [
          | inl early ↦ rw (early.1.0, early.1.1) (opens-first rules instant region at left (right ∷ []))
          | inr late ↦ rw (late.1.0, late.1.1, past_is) (opens-later rules instant region at left (right ∷ []))
        ]

-- the only stop of an anchor is its own
own_stop : (region : Region) (from to : ℤ) (stop found : Stop) →
    Some found ≡ first_among region (in_window from to (stop ∷ [])) → found ≡ stop
unfolding in_window
own_stop region from to stop found is = elim (cases_Bool (is_between from to stop.instant)) [
  | inl kept ↦ elim (cases_Bool (in_region region stop.cell)) [
    | inl held ↦ let same : Some found ≡ Some stop = rw (kept, held) at is in (cc)
    | inr apart ↦ let none : Some found ≡ None = rw (kept, apart) at is in absurd (cc)
  ]
  | inr gone ↦ let none : Some found ≡ None = rw gone at is in absurd (cc)
]

-- a search that ends at the anchor has found it, if it is a hit
pub anchor-end : (rules : RulesView) (instant : ℤ) (region : Region) (start : Start) (anchor : Option Stop) →
    anchor ≡ first_among region (in_window instant instant (stop_at start.instant start.cell ∷ [])) →
    hit_from rules instant region start (end_stage (is_some anchor)) ≡ anchor
anchor-end rules instant region start None is = refl
anchor-end rules instant region start (Some stop) is =
    ap Some (sym (own_stop region instant instant (stop_at start.instant start.cell) stop is))

-- a search in a log, at the symbol of a place, which was read
pub record IsPassed (rules : RulesView) (log : List ℕ) (start : Start) (instant : ℤ) (region : Region) (before i : ℕ)
    (at : Start) (entry : Entry) (after : ℕ) : Type 0 where
  pub steps : ℕ
  pub passing : IsPassing rules log start instant region before i at steps
  pub inside : i < length log
  pub is : entry ≡ entry_of rules (slice_index log i)
  pub known : slice_index log i < symbols_in rules
  pub read : after ≤ steps + 1

module _ {rules : RulesView} {log : List ℕ} {start : Start} {instant : ℤ} {region : Region} {before i : ℕ} {at : Start}
    {entry : Entry} {after : ℕ} (passed : IsPassed rules log start instant region before i at entry after) where
  own_is : entry.symbol ≡ slice_index log i
  own_is = own_symbol rules (slice_index log i) entry passed.is

  entry_is : entry ≡ entry_of rules entry.symbol
  entry_is = own_entry rules (slice_index log i) entry passed.is

  split : drop i log ≡ entry.symbol ∷ drop (i + 1) log
  split = rw (own_is, add-one) (drop-cons log i 0 passed.inside)

  way : IsWayOf rules at (entry.symbol ∷ drop (i + 1) log)
  way = subst (IsWayOf rules at) split passed.passing.way

  rest : hit_left rules instant instant region at (entry.symbol ∷ drop (i + 1) log)
      ≡ first_hit_of rules log start instant instant region
  rest = ap (λ s. hit_left rules instant instant region at s) (sym split) ∙ passed.passing.same

  few : touching_left rules instant instant region at (entry.symbol ∷ drop (i + 1) log)
      ≤ touching_count rules start log instant instant region
  few = rw split at passed.passing.fewer

  same_rules : RulesWithin (touching_rule rules at (entry.symbol ∷ drop (i + 1) log) instant instant region)
      (touching_rule rules start log instant instant region)
  same_rules = rw split at passed.passing.opens

  pub passing-start : IsStart (start_after at entry)
  passing-start = (next-way rules at entry (drop (i + 1) log) entry_is way).start_is

  module _ {next : Start} (leads : next ≡ start_after at entry) where
    leads_to : next ≡ start_past at (values_of rules entry.symbol)
    leads_to = leads ∙ start_after-is rules at entry entry.symbol entry_is

    -- the symbol has the instant, if it reaches it
    module _ (reached : instant ≤ℤ next.instant) where
      pub passing-within : IsWithin rules at instant entry.symbol
      passing-within = record {
        known = rw own_is passed.known;
        way = IsWayOf-first rules entry.symbol (drop (i + 1) log) at way;
        has = record { after = passed.passing.after; within = rw leads_to at reached };
      }

      pub passing-found : hit_left rules instant instant region at (entry.symbol ∷ [])
          ≡ first_hit_of rules log start instant instant region
      passing-found =
          sym (hit-within rules instant region at entry.symbol (drop (i + 1) log) (rw leads_to at reached)) ∙ rest

      pub passing-cost : after + touching_left rules instant instant region at (entry.symbol ∷ [])
          ≤ before + (length log + touching_count rules start log instant instant region)
      passing-cost =
          let alone = count-first rules instant region at entry.symbol (drop (i + 1) log) in
          omega (arith, alone, few, passed.read, passed.passing.cost, passed.inside)

      pub passing-opens : RulesWithin (touching_rule rules at (entry.symbol ∷ []) instant instant region)
          (touching_rule rules start log instant instant region)
      passing-opens = λ rule is. same_rules rule (opens-first rules instant region at entry.symbol (drop (i + 1) log) rule is)

    -- and else comes after it
    pub passing-next : next.instant <ℤ instant → IsPassing rules log start instant region before (i + 1) next after
    passing-next ended =
        let later = count-later rules instant region at entry.symbol (drop (i + 1) log) in
        record {
          way = rw leads (next-way rules at entry (drop (i + 1) log) entry_is way);
          after = ended;
          same = rw leads_to (sym (hit-past rules instant region at entry.symbol (drop (i + 1) log) (rw leads_to at ended)))
              ∙ rest;
          cost = omega (arith, passed.read, passed.passing.cost);
          fewer = rw leads_to (omega (arith, later, few));
          opens = rw leads_to
              (λ rule is. same_rules rule (opens-later rules instant region at entry.symbol (drop (i + 1) log) rule is));
        }

-- a search ends after the log
pub passing-last : {rules : RulesView} {log : List ℕ} {start : Start} {instant : ℤ} {region : Region} {before i : ℕ}
    {at : Start} {steps : ℕ} → IsPassing rules log start instant region before i at steps → length log ≤ i →
    None ≡ first_hit_of rules log start instant instant region
passing-last {rules} {log} {start} {instant} {region} {before} {i} {at} passing end =
    sym (hit-end rules instant region at) ∙ (rw (drop_of_length-le log end) at passing.same)

-- what holds where a search stands within a symbol
module _ (rules : RulesView) (at : Start) (instant : ℤ) (symbol : ℕ) (within : IsWithin rules at instant symbol)
    (entry : Entry) (entry_is : entry ≡ entry_of rules symbol) where
  pub within-hull : entry.hull ≡ bounding_box_of (values_of rules symbol)
  within-hull = hull_is rules entry symbol entry_is

  pub within-near : IsHullAsked at.cell entry.hull
  unfolding log_values
  within-near =
      IsHullAsked-along at.cell (values_of rules symbol) entry.hull within-hull
      (IsWay-front at (values_of rules symbol) (log_values rules []) within.way).cells

  within-past : start_after at entry ≡ start_past at (values_of rules symbol)
  within-past = start_after-is rules at entry symbol entry_is

  pub within-start : IsStart (start_after at entry)
  within-start = rw within-past (IsWayOf-rest rules symbol [] at within.way).start_is

  module _ (region : Region) where
    pub within-outside : touches_at region at.cell entry.hull ≡ false →
        None ≡ hit_left rules instant instant region at (symbol ∷ [])
    within-outside apart = sym (hit-outside rules instant region at symbol (rw within-hull at apart))

    -- a terminal that touches the region has the hit where it leads
    pub within-terminal : (next : Start) → next ≡ start_after at entry → symbol < length rules.alphabet →
        touches_at region at.cell entry.hull ≡ true →
        Some (stop_at next.instant next.cell) ≡ hit_left rules instant instant region at (symbol ∷ [])
    within-terminal next leads terminal touches =
        let past_is : next ≡ start_past at (values_of rules symbol) = leads ∙ within-past in
        rw past_is (sym (hit-terminal rules instant region at symbol terminal (rw within-hull at touches)
        within.has.after within.has.within))

    pub within-count : length rules.alphabet ≤ symbol → left_of rules symbol < symbol → right_of rules symbol < symbol →
        touches_at region at.cell entry.hull ≡ true →
        touching_left rules instant instant region at (symbol ∷ [])
        ≡ suc (touching_left rules instant instant region at (left_of rules symbol ∷ right_of rules symbol ∷ []))
    within-count rule left_below right_below touches =
        count-parts rules instant region at symbol rule within.known left_below right_below (rw within-hull at touches)
        within.has.after within.has.within

    -- a rule that touches it may be opened, and so may those of its parts
    pub within-opens : length rules.alphabet ≤ symbol → left_of rules symbol < symbol → right_of rules symbol < symbol →
        touches_at region at.cell entry.hull ≡ true →
        RulesWithin (rules_from rules instant region at (Touching symbol)) (rules_from rules instant region at (Within symbol))
    within-opens rule left_below right_below touches other is = elim (or_cases (symbol == other) _ is) [
      | inl own ↦
          let same : symbol ≡ other = grind (arith, nat_tests, own) in
          subst (λ s. IsTrue (touching_rule rules at (symbol ∷ []) instant instant region s)) same
          (opens-own rules instant region at symbol rule within.known left_below right_below (rw within-hull at touches)
          within.has.after within.has.within)
      | inr part ↦ opens-parts rules instant region at symbol rule within.known left_below right_below other part
    ]

-- a search begins after the anchor, where this is no hit
pub passing-first : (rules : RulesView) (log : List ℕ) (start : Start) (instant : ℤ) (region : Region) (before : ℕ) →
    IsWayOf rules start log → start.instant <ℤ instant → IsPassing rules log start instant region before 0 start before
passing-first rules log start instant region before way late =
    let early : is_between instant instant start.instant ≡ false = is_between-before instant instant start.instant late in
    let none : None ≡ first_among region (in_window instant instant (stop_at start.instant start.cell ∷ [])) =
    ap (first_among region) (window-none instant instant start.instant start.cell early) in
    record {
      way = way;
      after = late;
      same = first_hit_of-later rules log start instant instant region None none refl;
      cost = omega arith;
      fewer = omega arith;
      opens = λ rule is. is;
    }
