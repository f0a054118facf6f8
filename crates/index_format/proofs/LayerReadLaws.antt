-- Rules by layers: what is read was put.
use Rattle.std.proofs.Common.{◌≡◌, ℕ, zero, suc, ◌+◌, ◌-◌, ◌<◌, ◌≤◌, false, Bool, nat_lt, eqb, Option, Some, None, Ok, Err, List, [], ◌∷◌, ◌++◌, length, refl, sym, ap, subst, ◌∙◌, inl, inr, arith, append_assoc, append-nil}
use Rattle.std.specs.Prelude.{⊤, if◌then◌else◌}
use Rattle.std.proofs.lemmas.Bool.{cases_Bool, cases_lt}
use Rattle.std.proofs.lemmas.Bool.Decides.{nat_tests}
use Rattle.std.proofs.lemmas.List.{length-append}
use Rattle.bit_stream.specs.Numbers.{number_bits}
use Rattle.rule_store.specs.View.{RulesView}
use Rattle.rule_store.specs.Flaws.{is_rule_flawed, rule_flaw}
use Rattle.rule_store.proofs.FlawLemmas.{rule_flaw-none}
use Rattle.track_types.specs.declared.flaw.Flaw.{Flaw}
use Rattle.track_types.specs.declared.flaw.Kind.{Kind}
use Rattle.track_types.specs.declared.flaw.Kind.TheVariants.{Field}
use Rattle.track_types.specs.declared.flaw.Kind.TheVariants as kind
use Rattle.track_types.specs.declared.flaw.Section.TheVariants.{Layers, Rules}
use Rattle.index_format.specs.Fields.{◌>>=◌, flaw_at, items_at}
use Rattle.index_format.specs.Elements.{Element, told_at}
use Rattle.index_format.specs.IsOutline.{AreInOrder}
use Rattle.index_format.specs.OutlineLists.{told_bits}
use Rattle.index_format.specs.OutlineRules.{is_flawed_under, layer_floor, layer_rule_in, layers_in, least_left, least_right, rule_before, rule_numbers, rules_bits, rules_in, with_rules}
use Rattle.index_format.specs.LayerLists.{IsLayer, AreLayers, rules_of, layers_bits}
use Rattle.index_format.proofs.ElementLemmas.{bind-only, else-only, same-read, told_at-only}
use Rattle.index_format.proofs.LayerLemmas.{flawed_under-both, rule_before-more, rule_before-none}
use Rattle.index_format.proofs.LayerBits.{rules_bits-layers}
use Rattle.index_format.proofs.LayerLaws.{AreSound, flawed-longer, split-layer}
use Rattle.index_format.proofs.OrderLemmas.{layers-in_order}

-- a rule that is read
pub record IsReadRule (view : RulesView) (base top : ℕ) (before : Option (ℕ × ℕ)) (seen : List (ℕ × ℕ)) (rule : ℕ × ℕ) (bits rest : List Bool) : Type 0 where
  pub left : rule.0 < top
  pub right : rule.1 < top
  pub left_rises : least_left before ≤ rule.0
  pub right_rises : least_right base before rule.0 ≤ rule.1
  pub bits_are : bits ≡ number_bits (rule.0 - least_left before) ++ (number_bits (rule.1 - least_right base before rule.0) ++ rest)
  pub sound : is_rule_flawed (with_rules view (seen ++ rule ∷ [])) (length seen) ≡ false

module _ (view : RulesView) (base top : ℕ) where
  -- a rule that is not flawed has both parts under it
  under_of : (seen : List (ℕ × ℕ)) (left right : ℕ) → is_flawed_under view top seen (left, right) ≡ false → (left < top) × (right < top)
  under_of seen left right sound = (grind (arith, nat_tests, sound), grind (arith, nat_tests, sound))

  -- a rule, from its two numbers
  read_rule : (before : Option (ℕ × ℕ)) (seen : List (ℕ × ℕ)) (more right : ℕ) (rule : ℕ × ℕ) (bits middle rest : List Bool)
      → bits ≡ number_bits more ++ middle → middle ≡ number_bits right ++ rest
      → (least_left before + more, least_right base before (least_left before + more) + right) ≡ rule
      → is_flawed_under view top seen rule ≡ false → IsReadRule view base top before seen rule bits rest
  read_rule before seen more right rule bits middle rest first second is sound =
      let left_is : least_left before + more ≡ rule.0 = ap (λ (rule : ℕ × ℕ). rule.0) is in
      let right_is : least_right base before rule.0 + right ≡ rule.1 =
      ap (λ left. least_right base before left + right) (sym left_is) ∙ ap (λ (rule : ℕ × ℕ). rule.1) is in
      let under = under_of seen rule.0 rule.1 sound in
      let gap : rule.0 - least_left before ≡ more = omega (arith, left_is) in
      let other : rule.1 - least_right base before rule.0 ≡ right = omega (arith, right_is) in
      record {
        left = under.0;
        right = under.1;
        left_rises = omega (arith, left_is);
        right_rises = omega (arith, right_is);
        bits_are = rw (gap, other) (first ∙ ap (λ bits. number_bits more ++ bits) second);
        sound = sym (flawed_under-both view top rule.0 rule.1 seen under.0 under.1) ∙ sound;
      }

  -- a rule that is read was put
  pub rule-only : (start : ℕ) (seen : List (ℕ × ℕ)) (rule : ℕ × ℕ) (bits rest : List Bool)
      → layer_rule_in view base top start seen bits ≡ Ok (rule, rest) → IsReadRule view base top (rule_before start seen) seen rule bits rest
  unfolding layer_rule_in
  rule-only start seen rule bits rest read =
      let before = rule_before start seen in
      let flaw : Kind → Flaw = flaw_at Rules 0 (length seen) in
      let rule_by : ℕ → ℕ → ℕ × ℕ = λ more right. (least_left before + more, least_right base before (least_left before + more) + right) in
      let judged : ℕ → ℕ × List Bool → Element (ℕ × ℕ) =
      λ more right. if is_flawed_under view top seen (rule_by more right.0) then Err (flaw kind.Rule) else Ok (rule_by more right.0, right.1) in
      let first = bind-only (told_at flaw bits) (λ more. told_at flaw more.1 >>= judged more.0) (rule, rest) read in
      let more = first.0.0 in
      let middle = first.0.1 in
      let second = bind-only (told_at flaw middle) (judged more) (rule, rest) first.2 in
      let right = second.0.0 in
      let last = else-only (is_flawed_under view top seen (rule_by more right)) (flaw kind.Rule)
      (Ok (rule_by more right, second.0.1)) (rule, rest) second.2 in
      let same = same-read (rule_by more right) rule second.0.1 rest last.1 in
      read_rule before seen more right rule bits middle rest (told_at-only flaw more bits middle first.1).0
      ((told_at-only flaw right middle second.0.1 second.1).0 ∙ ap (λ rest. number_bits right ++ rest) same.1)
      same.0 (ap (is_flawed_under view top seen) (sym same.0) ∙ last.0)

  -- the rule before has a right part that is not under its floor
  abbrev HasFloor : Option (ℕ × ℕ) → Type 0
  HasFloor None = ⊤
  HasFloor (Some before) = layer_floor base before.0 ≤ before.1

  -- so has one that comes after it
  floor_of : (before : Option (ℕ × ℕ)) (left right : ℕ) → HasFloor before → least_right base before left ≤ right → layer_floor base left ≤ right
  floor_of None left right has rises = rises
  floor_of (Some before) left right has rises = grind (arith, nat_tests, has, rises)

  -- rules of a layer that are read
  pub record IsReadLayer (before : Option (ℕ × ℕ)) (many : ℕ) (seen all : List (ℕ × ℕ)) (bits rest : List Bool) : Type 0 where
    pub layer : List (ℕ × ℕ)
    pub whole : all ≡ seen ++ layer
    pub long : length layer ≡ many
    pub is : IsLayer base top before layer
    pub bits_are : bits ≡ told_bits (rule_numbers base before layer) ++ rest
    pub sound : AreSound view all (length seen) (length all)

  -- they were put
  pub layer-only : (many start : ℕ) (before : Option (ℕ × ℕ)) (seen all : List (ℕ × ℕ)) (bits rest : List Bool) → HasFloor before
      → start ≤ length seen → rule_before start seen ≡ before
      → items_at (layer_rule_in view base top start) many seen bits ≡ Ok (all, rest) → IsReadLayer before many seen all bits rest
  unfolding items_at IsLayer rule_numbers told_bits
  layer-only zero start before seen all bits rest has begun last read =
      let same = same-read seen all bits rest read in
      record {
        layer = [];
        whole = sym same.0 ∙ sym (append-nil seen);
        long = refl;
        is = tt;
        bits_are = same.1;
        sound = λ j from to. absurd (omega (arith, from, to, ap length same.0));
      }
  layer-only (suc many) start before seen all bits rest has begun last read =
      let next = layer_rule_in view base top start in
      let step = bind-only (next seen bits) (λ item. items_at next many (seen ++ item.0 ∷ []) item.1) (all, rest) read in
      let rule : ℕ × ℕ = step.0.0 in
      let after : List Bool = step.0.1 in
      let one = subst (λ before. IsReadRule view base top before seen rule bits after) last (rule-only start seen rule bits after step.1) in
      let floor = floor_of before rule.0 rule.1 has one.right_rises in
      let longer = seen ++ rule ∷ [] in
      let long : length longer ≡ length seen + 1 = omega (arith, length-append seen (rule ∷ [])) in
      let rec = layer-only many start (Some rule) longer all after rest floor (omega (arith, begun, long)) (rule_before-more start seen rule begun) step.2 in
      let left = number_bits (rule.0 - least_left before) in
      let right = number_bits (rule.1 - least_right base before rule.0) in
      let told = told_bits (rule_numbers base (Some rule) rec.layer) in
      record {
        layer = rule ∷ rec.layer;
        whole = rec.whole ∙ append_assoc seen (rule ∷ []) rec.layer;
        long = ap suc rec.long;
        is = (record { left = one.left; right = one.right; floor = floor; left_rises = one.left_rises; right_rises = one.right_rises }, rec.is);
        bits_are = one.bits_are ∙ ap (λ bits. left ++ (right ++ bits)) rec.bits_are ∙ ap (λ bits. left ++ bits) (sym (append_assoc right told rest))
            ∙ sym (append_assoc left (right ++ told) rest);
        sound = λ j from to. elim (cases_lt (length seen) j) [
          | inl above ↦ rec.sound j (omega (arith, above, long)) to
          | inr here ↦
              let is : j ≡ length seen = omega (arith, from, here) in
              ap (is_rule_flawed (with_rules view all)) is ∙ ap (λ all. is_rule_flawed (with_rules view all) (length seen)) rec.whole
              ∙ flawed-longer view rec.layer longer (length seen) (omega (arith, long)) ∙ one.sound
        ];
      }

module _ (view : RulesView) where
  -- layers that are read
  pub record IsReadLayers (base count : ℕ) (seen all : List (ℕ × ℕ)) (bits rest : List Bool) : Type 0 where
    pub layers : List (List (ℕ × ℕ))
    pub whole : all ≡ seen ++ rules_of layers
    pub are : AreLayers base (length view.alphabet + length seen) layers
    pub long : length all ≡ count
    pub bits_are : bits ≡ layers_bits base (length view.alphabet + length seen) layers ++ rest
    pub sound : AreSound view all (length seen) (length all)

  -- none are left
  read_all : (base count : ℕ) (seen all : List (ℕ × ℕ)) (bits rest : List Bool) → length seen ≡ count
      → (seen ≡ all) × (bits ≡ rest) → IsReadLayers base count seen all bits rest
  unfolding rules_of AreLayers layers_bits
  read_all base count seen all bits rest long same =
      record {
        layers = [];
        whole = sym same.0 ∙ sym (append-nil seen);
        are = tt;
        long = ap length (sym same.0) ∙ long;
        bits_are = same.1;
        sound = λ j from to. absurd (omega (arith, from, to, ap length same.0));
      }

  -- a layer that is read, and layers after it
  read_more : (base count more : ℕ) (seen longer all : List (ℕ × ℕ)) (bits after middle rest : List Bool) → bits ≡ number_bits more ++ after
      → IsReadLayer view base (length view.alphabet + length seen) None (suc more) seen longer after middle
      → IsReadLayers (length view.alphabet + length seen) count longer all middle rest → IsReadLayers base count seen all bits rest
  unfolding rules_of AreLayers layers_bits
  read_more base count more seen longer all bits after middle rest told one others =
      let top = length view.alphabet + length seen in
      let next : length view.alphabet + length longer ≡ top + length one.layer = omega (arith, ap length one.whole, length-append seen one.layer) in
      let less : more ≡ length one.layer - 1 = omega (arith, one.long) in
      let numbers = told_bits (rule_numbers base None one.layer) in
      let above = layers_bits top (top + length one.layer) others.layers in
      let middle_is : middle ≡ above ++ rest = others.bits_are ∙ ap (λ n. layers_bits top n others.layers ++ rest) next in
      let after_is : after ≡ numbers ++ (above ++ rest) = one.bits_are ∙ ap (λ bits. numbers ++ bits) middle_is in
      record {
        layers = one.layer ∷ others.layers;
        whole = others.whole ∙ ap (λ seen. seen ++ rules_of others.layers) one.whole ∙ append_assoc seen one.layer (rules_of others.layers);
        are = (omega (arith, one.long), one.is, subst (λ n. AreLayers top n others.layers) next others.are);
        long = others.long;
        bits_are = told ∙ ap (λ n. number_bits n ++ after) less ∙ ap (λ bits. number_bits (length one.layer - 1) ++ bits) after_is
            ∙ sym (split-layer base one.layer above rest);
        sound = λ j from to. elim (cases_lt j (length longer)) [
          | inl here ↦ ap (λ all. is_rule_flawed (with_rules view all) j) others.whole ∙ flawed-longer view (rules_of others.layers) longer j here
              ∙ one.sound j from here
          | inr later ↦ others.sound j later to
        ];
      }

  -- a layer's number and rules, and what is read after them
  record IsBegun (left count layer base : ℕ) (seen all : List (ℕ × ℕ)) (bits rest : List Bool) : Type 0 where
    more : ℕ
    longer : List (ℕ × ℕ)
    after : List Bool
    middle : List Bool
    small : suc more ≤ count - length seen
    told : bits ≡ number_bits more ++ after
    rules : items_at (layer_rule_in view base (length view.alphabet + length seen) (length seen)) (suc more) seen after ≡ Ok (longer, middle)
    others : layers_in left view count (suc layer) (length view.alphabet + length seen) longer middle ≡ Ok (all, rest)

  -- a layer is read while rules are left
  begun : (left count layer base : ℕ) (seen all : List (ℕ × ℕ)) (bits rest : List Bool) → eqb (length seen) count ≡ false
      → layers_in (suc left) view count layer base seen bits ≡ Ok (all, rest) → IsBegun left count layer base seen all bits rest
  unfolding layers_in
  begun left count layer base seen all bits rest differ read =
      let top = length view.alphabet + length seen in
      let others : List (ℕ × ℕ) × List Bool → Element (List (ℕ × ℕ)) = λ told. layers_in left view count (suc layer) top told.0 told.1 in
      let rules : ℕ → List Bool → Element (List (ℕ × ℕ)) =
      λ more after. items_at (layer_rule_in view base top (length seen)) (suc more) seen after in
      let first = bind-only (told_at (flaw_at Layers 0 layer) bits)
      (λ told. if nat_lt (count - length seen) (suc told.0) then Err (flaw_at Layers 0 layer Field) else (rules told.0 told.1 >>= others))
      (all, rest) (rw differ at read) in
      let more = first.0.0 in
      let after = first.0.1 in
      let test = else-only (nat_lt (count - length seen) (suc more)) (flaw_at Layers 0 layer Field)
      (rules more after >>= others) (all, rest) first.2 in
      let second = bind-only (rules more after) others (all, rest) test.1 in
      record {
        more = more;
        longer = second.0.0;
        after = after;
        middle = second.0.1;
        small = grind (arith, nat_tests, test.0);
        told = (told_at-only (flaw_at Layers 0 layer) more bits after first.1).0;
        rules = second.1;
        others = second.2;
      }

  -- they were put
  pub layers-only : (left count layer base : ℕ) (seen all : List (ℕ × ℕ)) (bits rest : List Bool) → length seen ≤ count → count ≤ length seen + left
      → layers_in left view count layer base seen bits ≡ Ok (all, rest) → IsReadLayers base count seen all bits rest
  unfolding layers_in
  layers-only zero count layer base seen all bits rest few enough read =
      read_all base count seen all bits rest (omega (arith, few, enough)) (same-read seen all bits rest read)
  layers-only (suc left) count layer base seen all bits rest few enough read = elim (cases_Bool (eqb (length seen) count)) [
    | inl same ↦ read_all base count seen all bits rest (grind (arith, nat_tests, same))
        (same-read seen all bits rest (rw same at read))
    | inr differ ↦
        let it = begun left count layer base seen all bits rest differ read in
        let top = length view.alphabet + length seen in
        let one = layer-only view base top (suc it.more) (length seen) None seen it.longer it.after it.middle tt (omega arith) (rule_before-none seen) it.rules in
        let long : length it.longer ≡ length seen + suc it.more = omega (arith, ap length one.whole, length-append seen one.layer, one.long) in
        read_more base count it.more seen it.longer all bits it.after it.middle rest it.told one
        (layers-only left count (suc layer) top it.longer all it.middle rest (omega (arith, long, it.small, few)) (omega (arith, long, enough)) it.others)
  ]

  -- rules that are read were put, and stand in order
  pub record AreReadRules (count : ℕ) (rules : List (ℕ × ℕ)) (bits rest : List Bool) : Type 0 where
    pub long : length rules ≡ count
    pub order : AreInOrder (length view.alphabet) rules
    pub sound : rule_flaw (with_rules view rules) ≡ None
    pub bits_are : bits ≡ rules_bits (length view.alphabet) rules ++ rest

  pub rules-only : (count : ℕ) (rules : List (ℕ × ℕ)) (bits rest : List Bool) → rules_in view count bits ≡ Ok (rules, rest) → AreReadRules count rules bits rest
  unfolding rules_in
  rules-only count rules bits rest read =
      let it = layers-only count count 0 0 [] rules bits rest (omega arith) (omega arith) read in
      let top : length view.alphabet + 0 ≡ length view.alphabet = omega arith in
      let are : AreLayers 0 (length view.alphabet) it.layers = subst (λ n. AreLayers 0 n it.layers) top it.are in
      let spelled : rules_bits (length view.alphabet) rules ≡ layers_bits 0 (length view.alphabet + 0) it.layers =
      ap (rules_bits (length view.alphabet)) it.whole ∙ rules_bits-layers (length view.alphabet) it.layers are
      ∙ ap (λ n. layers_bits 0 n it.layers) (sym top) in
      record {
        long = it.long;
        order = subst (AreInOrder (length view.alphabet)) (sym it.whole) (layers-in_order (length view.alphabet) it.layers are);
        sound = rule_flaw-none (with_rules view rules) (λ j some. it.sound j (omega arith) some);
        bits_are = it.bits_are ∙ ap (λ bits. bits ++ rest) (sym spelled);
      }
