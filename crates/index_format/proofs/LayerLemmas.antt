-- Rules of a layer, as they are read one after the other.
use Rattle.std.proofs.Common.{◌≡◌, ℕ, zero, suc, ◌+◌, ◌-◌, ◌<◌, ◌≤◌, true, false, Bool, eqb, nat_lt, Option, Some, None, Result, Ok, Err, List, [], ◌∷◌, ◌++◌, length, refl, sym, ap, ◌∙◌, arith}
use Rattle.std.specs.Prelude.{if◌then◌else◌}
use Rattle.std.proofs.Math.Seq.{get_or-append_seam}
use Rattle.std.proofs.lemmas.Bool.{lt-ltb, le-ltb}
use Rattle.std.proofs.lemmas.Bool.Decides.{nat_tests}
use Rattle.std.proofs.lemmas.List.{length-append}
use Rattle.rule_store.specs.View.{RulesView}
use Rattle.rule_store.specs.Flaws.{is_rule_flawed}
use Rattle.rule_store.specs.Table.{IsNextRule}
use Rattle.rule_store.specs.declared.entry_table.EntryTable.{EntryTable}
use Rattle.rule_store.proofs.TableLemmas.{table-with_rule}
use Rattle.track_types.specs.declared.flaw.Flaw.{Flaw}
use Rattle.track_types.specs.declared.flaw.Kind.TheVariants.{Field}
use Rattle.track_types.specs.declared.flaw.Kind.TheVariants as kind
use Rattle.track_types.specs.declared.flaw.Section.TheVariants.{Layers, Rules}
use Rattle.track_types.specs.declared.format_fault.FormatFault.{FormatFault}
use Rattle.track_types.specs.declared.format_fault.FormatFault.TheVariants as fault
use Rattle.index_format.specs.Answers.{IsFormatFault}
use Rattle.index_format.specs.Fields.{◌>>=◌, flaw_at, items_at}
use Rattle.index_format.specs.Elements.{Element, told_at}
use Rattle.index_format.specs.OutlineRules.{is_flawed_under, layer_rule_in, layers_in, least_left, least_right, rule_before, with_rules}
use Rattle.index_format.specs.RuleReading.{IsRuleTable}

-- a rule after these is the next of a table of them
pub next_rule : (view : RulesView) (seen : List (ℕ × ℕ)) (rule : ℕ × ℕ) (table : EntryTable) → IsRuleTable view seen table
    → IsNextRule (with_rules view (seen ++ rule ∷ [])) table (length seen) rule
next_rule view seen rule table known = record {
  known = table-with_rule (with_rules view seen) rule table (omega (arith, known.many)) known.known;
  many = known.many;
  within = omega (arith, length-append seen (rule ∷ []));
  is = get_or-append_seam seen rule [] (0, 0);
}

module _ (view : RulesView) (top left right : ℕ) (seen : List (ℕ × ℕ)) where
  -- a rule of which both parts are symbols of the layers below
  pub flawed_under-both : left < top → right < top
      → is_flawed_under view top seen (left, right) ≡ is_rule_flawed (with_rules view (seen ++ (left, right) ∷ [])) (length seen)
  flawed_under-both left_under right_under = rw (lt-ltb left top left_under, lt-ltb right top right_under) refl

module _ (view : RulesView) (base top start i : ℕ) (seen : List (ℕ × ℕ)) (bits : List Bool) (before : Option (ℕ × ℕ))
    (long : length seen ≡ i) (last : rule_before start seen ≡ before) where
  -- a rule whose first number cannot be read
  pub layer_rule_in-more : (why : FormatFault) → IsFormatFault (told_at (flaw_at Rules 0 i) bits) why
      → IsFormatFault (layer_rule_in view base top start seen bits) why
  unfolding layer_rule_in
  layer_rule_in-more fault.Memory read = tt
  layer_rule_in-more (fault.Flaw flaw) read = rw (long, read) refl

  module _ (more : ℕ) (middle : List Bool) (first : told_at (flaw_at Rules 0 i) bits ≡ Ok (more, middle)) where
    -- a rule whose second number cannot be read
    pub layer_rule_in-right : (why : FormatFault) → IsFormatFault (told_at (flaw_at Rules 0 i) middle) why
        → IsFormatFault (layer_rule_in view base top start seen bits) why
    unfolding layer_rule_in
    layer_rule_in-right fault.Memory read = tt
    layer_rule_in-right (fault.Flaw flaw) read = rw (long, first, read) refl

    -- a rule of these least parts
    module _ (right l r : ℕ) (rest : List Bool) (second : told_at (flaw_at Rules 0 i) middle ≡ Ok (right, rest))
        (l_is : l ≡ least_left before) (r_is : r ≡ least_right base before (l + more)) where
      -- a number of the next rule
      half : (bits : List Bool) (taken : Element ℕ) → told_at (flaw_at Rules 0 i) bits ≡ taken
          → told_at (flaw_at Rules 0 (length seen)) bits ≡ taken
      half bits taken is = ap (λ k. told_at (flaw_at Rules 0 k) bits) long ∙ is

      -- a flawed one
      pub layer_rule_in-flawed : is_flawed_under view top seen (l + more, r + right) ≡ true
          → layer_rule_in view base top start seen bits ≡ Err (flaw_at Rules 0 i kind.Rule)
      unfolding layer_rule_in
      layer_rule_in-flawed flawed =
          rw (last, half bits (Ok (more, middle)) first, half middle (Ok (right, rest)) second, sym l_is, sym r_is, flawed)
          (ap (λ k. Err (flaw_at Rules 0 k kind.Rule)) long)

      -- one that is none
      pub layer_rule_in-ok : is_flawed_under view top seen (l + more, r + right) ≡ false
          → layer_rule_in view base top start seen bits ≡ Ok ((l + more, r + right), rest)
      unfolding layer_rule_in
      layer_rule_in-ok sound =
          rw (last, half bits (Ok (more, middle)) first, half middle (Ok (right, rest)) second, sym l_is, sym r_is, sound) refl

module _ {A S : Type 0} (next : List A → S → Result (A × S) Flaw) (left : ℕ) (seen : List A) (rest : S) (some : 0 < left) where
  -- an item that could not be read is a fault of all
  pub items_at-err : (why : FormatFault) → IsFormatFault (next seen rest) why → IsFormatFault (items_at next left seen rest) why
  unfolding items_at
  items_at-err fault.Memory read = tt
  items_at-err (fault.Flaw flaw) read = let more : left ≡ suc (left - 1) = omega arith in rw (more, read) refl

  -- one that was read, and those after it
  pub items_at-next : (item : A) (after : S) → next seen rest ≡ Ok (item, after)
      → items_at next left seen rest ≡ items_at next (left - 1) (seen ++ item ∷ []) after
  unfolding items_at
  items_at-next item after read =
      let more : left ≡ suc (left - 1) = omega arith in
      ap (λ m. items_at next m seen rest) more ∙ rw read refl

-- after a rule the next one follows it
pub rule_before-more : (start : ℕ) (seen : List (ℕ × ℕ)) (rule : ℕ × ℕ) → start ≤ length seen
    → rule_before start (seen ++ rule ∷ []) ≡ Some rule
rule_before-more start seen rule behind =
    let long : length (seen ++ rule ∷ []) ≡ suc (length seen) = omega (arith, length-append seen (rule ∷ [])) in
    let some : eqb (suc (length seen)) start ≡ false = grind (arith, nat_tests, behind) in
    let place : suc (length seen) - 1 ≡ length seen = omega arith in
    rw (long, some, place, get_or-append_seam seen rule [] (0, 0)) refl

-- and before the first there is none
pub rule_before-none : (seen : List (ℕ × ℕ)) → rule_before (length seen) seen ≡ None
rule_before-none seen = let same : eqb (length seen) (length seen) ≡ true = grind (arith, nat_tests) in rw same refl

module _ (view : RulesView) (count layer base left : ℕ) (seen : List (ℕ × ℕ)) (bits : List Bool) (whole : Element (List (ℕ × ℕ)))
    (some : 0 < left) (here : length seen < count) (read : layers_in left view count layer base seen bits ≡ whole) where
  -- the layer's number
  abbrev next_layer : Element ℕ → Element (List (ℕ × ℕ))
  next_layer told = told >>= λ rules.
      if nat_lt (count - length seen) (suc rules.0) then Err (flaw_at Layers 0 layer Field) else
      (items_at (layer_rule_in view base (length view.alphabet + length seen) (length seen)) (suc rules.0) seen rules.1 >>=
      λ told. layers_in (left - 1) view count (suc layer) (length view.alphabet + length seen) told.0 told.1)

  -- what is left begins with a layer
  begins : whole ≡ next_layer (told_at (flaw_at Layers 0 layer) bits)
  unfolding layers_in
  begins =
      let more : left ≡ suc (left - 1) = omega arith in
      let test : eqb (length seen) count ≡ false = grind (arith, nat_tests, here) in
      sym read ∙ ap (λ m. layers_in m view count layer base seen bits) more ∙ rw test refl

  -- how many rules the layer has cannot be read
  pub layers_in-untold : (why : FormatFault) → IsFormatFault (told_at (flaw_at Layers 0 layer) bits) why → IsFormatFault whole why
  layers_in-untold fault.Memory untold = tt
  layers_in-untold (fault.Flaw flaw) untold = begins ∙ ap next_layer untold

  module _ (more : ℕ) (after : List Bool) (told : told_at (flaw_at Layers 0 layer) bits ≡ Ok (more, after)) where
    -- it has too many
    pub layers_in-large : count - length seen ≤ more → whole ≡ Err (flaw_at Layers 0 layer Field)
    layers_in-large large = begins ∙ ap next_layer told ∙ rw (lt-ltb (count - length seen) (suc more) (omega (arith, large))) refl

    module _ (many top : ℕ) (small : more < count - length seen) (many_is : many ≡ suc more) (top_is : top ≡ length view.alphabet + length seen) where
      -- the layers after these rules
      abbrev layers_after : Element (List (ℕ × ℕ)) → Element (List (ℕ × ℕ))
      layers_after told = told >>= λ told. layers_in (left - 1) view count (suc layer) top told.0 told.1

      -- they are read next
      goes_on : whole ≡ layers_after (items_at (layer_rule_in view base top (length seen)) many seen after)
      goes_on = begins ∙ ap next_layer told ∙ rw (le-ltb (count - length seen) (suc more) (omega (arith, small)), top_is, many_is) refl

      -- one of them is a fault
      pub layers_in-fault : (why : FormatFault) → IsFormatFault (items_at (layer_rule_in view base top (length seen)) many seen after) why
          → IsFormatFault whole why
      layers_in-fault fault.Memory untold = tt
      layers_in-fault (fault.Flaw flaw) untold = goes_on ∙ ap layers_after untold

      -- they are read
      pub layers_in-next : (rules : List (ℕ × ℕ)) (rest : List Bool)
          → items_at (layer_rule_in view base top (length seen)) many seen after ≡ Ok (rules, rest)
          → layers_in (left - 1) view count (suc layer) top rules rest ≡ whole
      layers_in-next rules rest told = sym (goes_on ∙ ap layers_after told)

-- all rules were read
pub layers_in-ends : (view : RulesView) (count layer base left : ℕ) (seen : List (ℕ × ℕ)) (bits : List Bool) → length seen ≡ count
    → layers_in left view count layer base seen bits ≡ Ok (seen, bits)
unfolding layers_in
layers_in-ends view count layer base zero seen bits all = refl
layers_in-ends view count layer base (suc more) seen bits all =
    let test : eqb (length seen) count ≡ true = grind (arith, nat_tests, all) in rw test refl
