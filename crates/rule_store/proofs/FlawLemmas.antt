-- What follows from no flaw: short movements, sound rules and known symbols.
use Rattle.std.proofs.Common.{◌≡◌, ℕ, zero, suc, ◌+◌, ◌-◌, ◌*◌, ◌^◌, ◌<◌, ◌≤◌, true, false, List, length, Option, Some, None, refl, arith, inl, inr}
use Rattle.std.specs.Prelude.{Bool, slice_index, not, ◌||◌, nat_lt, nat_le}
use Rattle.std.proofs.Math.Nat.{one-le-pow, pow-le-pow_right}
use Rattle.std.proofs.lemmas.Bool.{and_parts, and_right, cases_Bool, cases_lt, le-leb, leb-false, lt-ltb, le-ltb, ltb-false, ltb-true, not-false, or_parts}
use Rattle.spiral_code.specs.Spiral.{move_of, ring_of, square}
use Rattle.spiral_code.proofs.SpiralLemmas.{move_of-below}
use Rattle.track_types.specs.declared.cell_box.CellBox.{CellBox}
use Rattle.track_types.specs.declared.limit.TheConstants.{MAX_HEIGHT}
use Rattle.list_laws.proofs.FindLemmas.{find_in_range-all, find_in_range-first, find_in_range-none}
use Rattle.list_laws.proofs.FirstLemmas.{map-none, or-none}
use Rattle.rule_store.specs.View.{RulesView, symbols_in}
use Rattle.rule_store.specs.Entry.{entry_of}
use Rattle.rule_store.specs.Flaws.{are_below, box_passes, code_flaw, is_far, leads_out, is_rule_flawed, reach_limit, rule_parts, rule_flaw, rules_flaw, symbol_flaw}
use Rattle.rule_store.specs.declared.entry.Entry.{Entry}

pub record NoFlaws (view : RulesView) : Type 0 where
  pub codes : code_flaw view.height view.alphabet ≡ None
  pub rules : rule_flaw view ≡ None
  pub symbols : symbol_flaw (symbols_in view) view.symbols ≡ None

-- lists without a flaw have none of each kind
pub no_flaws : (view : RulesView) → rules_flaw view ≡ None → NoFlaws view
no_flaws view none =
    let first = or-none _ _ none in
    let second = or-none _ _ first.1 in
    record {
      codes = map-none _ (code_flaw view.height view.alphabet) first.0;
      rules = map-none _ (rule_flaw view) second.0;
      symbols = map-none _ (symbol_flaw (symbols_in view) view.symbols) second.1;
    }

pub rules_flaw-none : (view : RulesView) → NoFlaws view → rules_flaw view ≡ None
rules_flaw-none view none = rw (none.codes, none.rules, none.symbols) refl

-- a stored symbol is a terminal or a rule
pub symbol-known : (many : ℕ) (symbols : List ℕ) (place : ℕ) → symbol_flaw many symbols ≡ None →
    place < length symbols →
    slice_index symbols place < many
unfolding symbol_flaw
symbol-known many symbols place none within =
    leb-false many (slice_index symbols place)
    (find_in_range-all (λ i. nat_le many (slice_index symbols i)) 0 (length symbols) none place (omega arith)
    (omega arith))

-- the grid's reach is one less than a power of two
pub reach_limit-is : (height : ℕ) → reach_limit height + 1 ≡ 2 ^ height
reach_limit-is height =
    let some : 1 ≤ 2 ^ height = one-le-pow height 2 (omega arith) in
    omega arith

pub reach_limit-high : (height : ℕ) → height ≤ MAX_HEIGHT → reach_limit height < 2 ^ MAX_HEIGHT
reach_limit-high height high =
    let some : 2 ^ height ≤ 2 ^ MAX_HEIGHT = pow-le-pow_right (omega arith) high in
    omega (arith, reach_limit-is height)

-- a value is long if and only if it is above the square of all codes of movements within reach
pub leads_out-above : (height value : ℕ) → square (2 * reach_limit height + 1) < value → leads_out height value ≡ true
leads_out-above height zero above = absurd (omega arith)
leads_out-above height (suc code) above =
    elim (cases_Bool (leads_out height (suc code))) [
      | inl long ↦ long
      | inr short ↦
          let within = ltb-false (reach_limit height) (ring_of (move_of code).0 (move_of code).1) short in
          let below : code < square (2 * reach_limit height + 1) = (move_of-below code (reach_limit height)).1 within in
          absurd (omega arith)
    ]

pub leads_out-below : (height value : ℕ) → value ≤ square (2 * reach_limit height + 1) → leads_out height value ≡ false
leads_out-below height zero below = le-ltb (reach_limit height) 0 (omega arith)
leads_out-below height (suc code) below =
    let low : code < square (2 * reach_limit height + 1) = omega arith in
    le-ltb (reach_limit height) _ ((move_of-below code (reach_limit height)).0 low)

pub value-short : (height : ℕ) (alphabet : List ℕ) (place : ℕ) → code_flaw height alphabet ≡ None →
    place < length alphabet → slice_index alphabet place ≤ square (2 * reach_limit height + 1)
unfolding code_flaw
value-short height alphabet place none within =
    let value = slice_index alphabet place in
    let short : leads_out height value ≡ false =
    find_in_range-all (λ i. leads_out height (slice_index alphabet i)) 0 (length alphabet) none place (omega arith)
    (omega arith) in
    elim (cases_lt (square (2 * reach_limit height + 1)) value) [
      | inl above ↦ let long = leads_out-above height value above in absurd (cc)
      | inr below ↦ below
    ]

-- what holds of a rule that is not flawed
pub record IsSoundRule (view : RulesView) (j : ℕ) : Type 0 where
  pub left : (rule_parts view.rules j).0 < length view.alphabet + j
  pub right : (rule_parts view.rules j).1 < length view.alphabet + j
  pub near : is_far view.height view.period (entry_of view (length view.alphabet + j)) ≡ false

pub sound_rule : (view : RulesView) (j : ℕ) → is_rule_flawed view j ≡ false → IsSoundRule view j
unfolding is_rule_flawed
sound_rule view j sound =
    let symbol = length view.alphabet + j in
    let both = or_parts (not (are_below symbol (rule_parts view.rules j)))
    (is_far view.height view.period (entry_of view symbol)) sound in
    let below = and_parts (nat_lt (rule_parts view.rules j).0 symbol) (nat_lt (rule_parts view.rules j).1 symbol)
    (not-false (are_below symbol (rule_parts view.rules j)) both.0) in
    record { left = ltb-true _ _ below.0; right = ltb-true _ _ below.1; near = both.1 }

pub rule-sound : (view : RulesView) (j : ℕ) → rule_flaw view ≡ None → j < length view.rules → IsSoundRule view j
unfolding rule_flaw
rule-sound view j none within =
    sound_rule view j (find_in_range-all (is_rule_flawed view) 0 (length view.rules) none j (omega arith) (omega arith))

-- a box that does not pass the limit
pub box_passes-false : (height : ℕ) (area : CellBox) → box_passes height (Some area) ≡ false →
    (ring_of area.x1 area.y1 ≤ reach_limit height) × (ring_of area.x2 area.y2 ≤ reach_limit height)
box_passes-false height area near =
    let both = or_parts (nat_lt (reach_limit height) (ring_of area.x1 area.y1))
    (nat_lt (reach_limit height) (ring_of area.x2 area.y2)) near in
    (ltb-false _ _ both.0, ltb-false _ _ both.1)

-- an entry that is not far
pub record IsNearEntry (height period : ℕ) (entry : Entry) : Type 0 where
  pub duration : entry.duration ≤ period - 1
  pub displacement : ring_of entry.dx entry.dy ≤ reach_limit height
  pub hull : box_passes height entry.hull ≡ false

pub near_entry : (height period : ℕ) (entry : Entry) → is_far height period entry ≡ false →
    IsNearEntry height period entry
near_entry height period entry near =
    let first = or_parts (nat_lt (period - 1) entry.duration)
    (nat_lt (reach_limit height) (ring_of entry.dx entry.dy) || box_passes height entry.hull) near in
    let second = or_parts (nat_lt (reach_limit height) (ring_of entry.dx entry.dy))
    (box_passes height entry.hull) first.1 in
    record { duration = ltb-false _ _ first.0; displacement = ltb-false _ _ second.0; hull = second.1 }

-- a box that stays within the reach of a grid stays within that of each higher one
pub box_passes-higher : (height : ℕ) (hull : Option CellBox) → height ≤ MAX_HEIGHT → box_passes height hull ≡ false →
    box_passes MAX_HEIGHT hull ≡ false
box_passes-higher height None high near = refl
box_passes-higher height (Some area) high near =
    let both = box_passes-false height area near in
    let more = reach_limit-high height high in
    let first : nat_lt (reach_limit MAX_HEIGHT) (ring_of area.x1 area.y1) ≡ false = le-ltb _ _ (omega (arith, both.0)) in
    let second : nat_lt (reach_limit MAX_HEIGHT) (ring_of area.x2 area.y2) ≡ false = le-ltb _ _ (omega (arith, both.1)) in
    rw (first, second) refl

-- the first place of each kind, and that there is none
pub code_flaw-at : (height : ℕ) (alphabet : List ℕ) (place : ℕ) → place < length alphabet →
    ((j : ℕ) → j < place → leads_out height (slice_index alphabet j) ≡ false) →
    leads_out height (slice_index alphabet place) ≡ true → code_flaw height alphabet ≡ Some place
unfolding code_flaw
code_flaw-at height alphabet place within before here =
    find_in_range-first (λ i. leads_out height (slice_index alphabet i)) 0 (length alphabet) place (omega arith)
    (omega arith) (λ j above below. before j below) here

pub code_flaw-none : (height : ℕ) (alphabet : List ℕ) →
    ((j : ℕ) → j < length alphabet → leads_out height (slice_index alphabet j) ≡ false) → code_flaw height alphabet ≡ None
unfolding code_flaw
code_flaw-none height alphabet short =
    find_in_range-none (λ i. leads_out height (slice_index alphabet i)) 0 (length alphabet)
    (λ j above below. short j (omega arith))

pub symbol_flaw-at : (many : ℕ) (symbols : List ℕ) (place : ℕ) → place < length symbols →
    ((j : ℕ) → j < place → nat_le many (slice_index symbols j) ≡ false) → many ≤ slice_index symbols place →
    symbol_flaw many symbols ≡ Some place
unfolding symbol_flaw
symbol_flaw-at many symbols place within before here =
    find_in_range-first (λ i. nat_le many (slice_index symbols i)) 0 (length symbols) place (omega arith) (omega arith)
    (λ j above below. before j below) (le-leb many (slice_index symbols place) here)

pub symbol_flaw-none : (many : ℕ) (symbols : List ℕ) →
    ((j : ℕ) → j < length symbols → nat_le many (slice_index symbols j) ≡ false) → symbol_flaw many symbols ≡ None
unfolding symbol_flaw
symbol_flaw-none many symbols known =
    find_in_range-none (λ i. nat_le many (slice_index symbols i)) 0 (length symbols)
    (λ j above below. known j (omega arith))

pub rule_flaw-at : (view : RulesView) (j : ℕ) → j < length view.rules →
    ((i : ℕ) → i < j → is_rule_flawed view i ≡ false) → is_rule_flawed view j ≡ true → rule_flaw view ≡ Some j
unfolding rule_flaw
rule_flaw-at view j within before here =
    find_in_range-first (is_rule_flawed view) 0 (length view.rules) j (omega arith) (omega arith)
    (λ i above below. before i below) here

pub rule_flaw-none : (view : RulesView) → ((j : ℕ) → j < length view.rules → is_rule_flawed view j ≡ false) →
    rule_flaw view ≡ None
unfolding rule_flaw
rule_flaw-none view sound =
    find_in_range-none (is_rule_flawed view) 0 (length view.rules) (λ j above below. sound j (omega arith))

-- a rule by its parts
module _ (view : RulesView) (j left right : ℕ) (is : rule_parts view.rules j ≡ (left, right)) where
  pub flawed_rule-left : length view.alphabet + j ≤ left → is_rule_flawed view j ≡ true
  unfolding is_rule_flawed
  flawed_rule-left above =
      let fails : nat_lt left (length view.alphabet + j) ≡ false = le-ltb _ _ above in
      rw (is, fails) refl

  pub flawed_rule-right : length view.alphabet + j ≤ right → is_rule_flawed view j ≡ true
  unfolding is_rule_flawed
  flawed_rule-right above =
      let fails : nat_lt right (length view.alphabet + j) ≡ false = le-ltb _ _ above in
      let both : are_below (length view.alphabet + j) (left, right) ≡ false =
      and_right (nat_lt left (length view.alphabet + j)) (nat_lt right (length view.alphabet + j)) fails in
      rw (is, both) refl

  pub rule_flawed-by_entry : left < length view.alphabet + j → right < length view.alphabet + j → (b : Bool) →
      is_far view.height view.period (entry_of view (length view.alphabet + j)) ≡ b → is_rule_flawed view j ≡ b
  unfolding is_rule_flawed
  rule_flawed-by_entry left_below right_below b far =
      let first : nat_lt left (length view.alphabet + j) ≡ true = lt-ltb _ _ left_below in
      let second : nat_lt right (length view.alphabet + j) ≡ true = lt-ltb _ _ right_below in
      rw (is, first, second) far
