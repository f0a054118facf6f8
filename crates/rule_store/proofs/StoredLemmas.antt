-- The table of packed entries: one more symbol, its depths, and a rule that is read.
use Rattle.std.proofs.Common.{◌≡◌, ℕ, zero, suc, ◌+◌, ◌-◌, ◌<◌, ◌≤◌, ℤ, pos, ◌+ℤ◌, false, List, [], ◌∷◌, ◌++◌, length, get_or, map, max, Some, refl, ap, sym, ◌∙◌, subst, arith, inl, inr}
use Rattle.std.specs.Prelude.{fold, slice_get}
use Rattle.std.proofs.lemmas.Int.{ints}
use Rattle.std.proofs.lemmas.Bool.{cases_order, le-ltb, ltb-false}
use Rattle.std.proofs.lemmas.Option.{get_or_from_slice_get}
use Rattle.std.proofs.lemmas.List.{get_or-map, length-append, length-map}
use Rattle.std.proofs.lemmas.List.Folds.{fold-map}
use Rattle.std.proofs.lemmas.Grind.{same_number_lists}
use Rattle.std.proofs.Math.ListN.{get_or-append}
use Rattle.std.proofs.Math.Seq.{get_or-append_seam}
use Rattle.spiral_code.specs.Spiral.{move_of, ring_of}
use Rattle.rule_store.specs.View.{RulesView, rules_with, symbols_in}
use Rattle.rule_store.specs.Expansion.{depth_in, depth_of, depths, values_of}
use Rattle.rule_store.specs.Cells.{cells_along, displacement_of, movement_of}
use Rattle.rule_store.specs.Boxes.{bounding_box_of, box_round}
use Rattle.rule_store.specs.Entry.{entry_of, entry_with}
use Rattle.rule_store.specs.Flaws.{AreRules, box_passes, leads_out, left_of, reach_limit, right_of, rule_parts}
use Rattle.rule_store.specs.Stored.{AreEntries, IsEntryOf, IsPackedEntry, IsReadRule}
use Rattle.rule_store.specs.declared.entry.Entry.{Entry}
use Rattle.rule_store.specs.declared.packed_entry.PackedEntry.{PackedEntry}
use Rattle.rule_store.proofs.ExpansionLemmas.{depth_of-rule, length-depths, values_of-rule}
use Rattle.rule_store.proofs.FlawLemmas.{no_flaws, rule-sound}

-- views of the same lists are the same
pub same_view : (xs ys : List ℕ) (rules others : List (ℕ × ℕ)) (symbols more : List ℕ) (height period : ℕ) →
    xs ≡ ys → rules ≡ others → symbols ≡ more →
    rules_with xs rules symbols height period ≡ rules_with ys others more height period
same_view xs ys rules others symbols more height period a b c = rw (a, b, c) refl

-- the table with the entry of the next symbol
pub entries-more : (view : RulesView) (entries : List PackedEntry) (entry : PackedEntry) → AreEntries view entries →
    IsEntryOf view (length entries) entry → AreEntries view (entries ++ entry ∷ [])
entries-more view entries entry known here = record {
  each = λ symbol other within. elim (cases_order symbol (length entries)) [
    | inl last ↦
        let is : get_or (entries ++ entry ∷ []) symbol other ≡ entry =
        ap (λ k. get_or (entries ++ entry ∷ []) k other) last ∙ get_or-append_seam entries entry [] other in
        subst (λ e. IsEntryOf view symbol e) (sym is) (subst (λ k. IsEntryOf view k entry) (sym last) here)
    | inr other_place ↦ elim other_place [
      | inl before ↦
          let is = get_or-append entries (entry ∷ []) other symbol before in
          subst (λ e. IsEntryOf view symbol e) (sym is) (known.each symbol other before)
      | inr after ↦ absurd (omega (arith, length-append entries (entry ∷ [])))
    ]
  ];
}

-- any entry serves where a list of them ends
zero_entry : PackedEntry
zero_entry = record {
  duration = 0;
  depth = 0;
  dx = pos 0;
  dy = pos 0;
  hull = record { x1 = pos 0; y1 = pos 0; x2 = pos 0; y2 = pos 0; high = λ wide. wide };
  short = omega arith;
  shallow = omega arith;
}

-- the depths of the entries are those of the symbols
same_depths : (view : RulesView) (entries : List PackedEntry) → length entries ≡ symbols_in view →
    AreEntries view entries → map (λ (entry : PackedEntry). entry.depth) entries ≡ depths
    (length view.alphabet) view.rules
unfolding depth_of
same_depths view entries many known =
    let depth : PackedEntry → ℕ = λ entry. entry.depth in
    let long : length (map depth entries) ≡ length entries = length-map entries depth in
    same_number_lists (map depth entries) (depths (length view.alphabet) view.rules)
    (omega (arith, long, many, length-depths view))
    (λ k within.
    let below : k < length entries = omega (arith, long) in
    get_or-map depth entries k zero_entry 0 below ∙ (known.each k zero_entry below).depth)

-- and so is the greatest of them
pub depth_in-entries : (view : RulesView) (entries : List PackedEntry) → length entries ≡ symbols_in view →
    AreEntries view entries → fold (λ deepest (entry : PackedEntry). max deepest entry.depth) 0 entries ≡ depth_in view
unfolding depth_in
depth_in-entries view entries many known =
    sym (fold-map max (λ (entry : PackedEntry). entry.depth) 0 entries)
    ∙ ap (λ numbers. fold max 0 numbers) (same_depths view entries many known)

-- a movement within reach, as the entry of its terminal
pub terminal-reach : (height symbol value : ℕ) → leads_out height value ≡ false →
    ring_of (entry_with symbol (value ∷ [])).dx (entry_with symbol (value ∷ [])).dy ≤ reach_limit height
unfolding displacement_of
terminal-reach height symbol value short =
    let near = ltb-false (reach_limit height) (ring_of (movement_of value).0 (movement_of value).1) short in
    omega (arith, ints)

pub terminal-box : (height symbol value : ℕ) → leads_out height value ≡ false →
    box_passes height (entry_with symbol (value ∷ [])).hull ≡ false
unfolding bounding_box_of cells_along box_round
terminal-box height symbol zero short = refl
terminal-box height symbol (suc code) short =
    let near = ltb-false (reach_limit height) (ring_of (move_of code).0 (move_of code).1) short in
    let x : ℤ = pos 0 +ℤ (move_of code).0 in
    let y : ℤ = pos 0 +ℤ (move_of code).1 in
    let within : ring_of x y ≤ reach_limit height = omega (arith, ints) in
    rw (le-ltb (reach_limit height) (ring_of x y) within) refl

-- a rule's entry, from those of its parts
module _ (view : RulesView) (j : ℕ) (parts : ℕ × ℕ) (within : j < length view.rules)
    (is : rule_parts view.rules j ≡ parts) (left_below : parts.0 < length view.alphabet + j)
    (right_below : parts.1 < length view.alphabet + j)
    (left right : PackedEntry) (left_is : IsEntryOf view parts.0 left) (right_is : IsEntryOf view parts.1 right) where
  pub entry_of-rule : (entry : Entry) (symbol : ℕ) → symbol ≡ length view.alphabet + j →
      ((lefts rights : List ℕ) → IsPackedEntry lefts left → IsPackedEntry rights right →
      entry ≡ entry_with symbol (lefts ++ rights)) →
      entry ≡ entry_of view (length view.alphabet + j)
  unfolding entry_of
  entry_of-rule entry symbol own joins =
      joins (values_of view parts.0) (values_of view parts.1) left_is.values right_is.values
      ∙ ap (λ k. entry_with k (values_of view parts.0 ++ values_of view parts.1)) own
      ∙ ap (entry_with (length view.alphabet + j))
      (sym (values_of-rule view j parts.0 parts.1 within is left_below right_below))

  pub is_entry_of-rule : (entry : Entry) (packed : PackedEntry) → entry ≡ entry_of view (length view.alphabet + j) →
      ((symbol : ℕ) (values : List ℕ) → entry ≡ entry_with symbol values → IsPackedEntry values packed) →
      packed.depth ≡ 1 + max left.depth right.depth → IsEntryOf view (length view.alphabet + j) packed
  unfolding entry_of
  is_entry_of-rule entry packed of packs deep = record {
    values = packs (length view.alphabet + j) (values_of view (length view.alphabet + j)) of;
    depth = deep ∙ ap (λ d. 1 + max d right.depth) left_is.depth
        ∙ ap (λ d. 1 + max (depth_of view parts.0) d) right_is.depth
        ∙ sym (depth_of-rule view j parts.0 parts.1 within is left_below right_below);
    shallow = omega (arith, left_is.shallow, right_is.shallow);
  }

-- what is read where a rule stands: its parts, which are below it
pub read_rule : (view : RulesView) (symbol place : ℕ) (parts : ℕ × ℕ) → AreRules view → length view.alphabet ≤ symbol →
    symbol < symbols_in view → place ≡ symbol - length view.alphabet → slice_get view.rules place ≡ Some parts →
    IsReadRule view symbol parts
read_rule view symbol place parts rules rule within here read =
    let is : rule_parts view.rules (symbol - length view.alphabet) ≡ parts =
    get_or_from_slice_get view.rules (symbol - length view.alphabet) parts (0, 0)
    (subst (λ k. slice_get view.rules k ≡ Some parts) here read) in
    let sound = rule-sound view (symbol - length view.alphabet) (no_flaws view rules.flawless).rules (omega arith) in
    let left_is : left_of view symbol ≡ parts.0 = ap (λ p. p.0) is in
    let right_is : right_of view symbol ≡ parts.1 = ap (λ p. p.1) is in
    record {
      left = left_is;
      right = right_is;
      left_below = omega (arith, sound.left, left_is);
      right_below = omega (arith, sound.right, right_is);
    }
