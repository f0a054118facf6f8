-- Rules that are put layer by layer.
use Rattle.std.proofs.Common.{◌≡◌, ℕ, ◌+◌, ◌-◌, ◌<◌, ◌≤◌, ◌^◌, true, false, Bool, Option, Some, None, List, [], ◌∷◌, ◌++◌, length, get_or, drop, take, refl, sym, ap, subst, ◌∙◌, arith, append_assoc, append-nil}
use Rattle.std.specs.List.{prefix_len}
use Rattle.std.proofs.lemmas.Bool.{lt-ltb}
use Rattle.std.proofs.lemmas.Bool.Decides.{nat_tests}
use Rattle.std.proofs.lemmas.List.{length-append, length-drop, drop_all, drop_more, take_at, drop_at}
use Rattle.bit_stream.specs.Numbers.{number_bits}
use Rattle.index_format.specs.IsOutline.{AreInOrder}
use Rattle.index_format.specs.OutlineLists.{told_bits}
use Rattle.index_format.specs.OutlineRules.{are_under, least_left, least_right, rule_numbers, rules_bits}
use Rattle.index_format.specs.LayerLists.{Follows, IsLayer, AreLayers, rules_of, layers_bits, one_layer_bits}
use Rattle.index_format.proofs.LayerBits.{rules_bits-layers}
use Rattle.index_format.proofs.SplitLemmas.{in_order-layers}

-- a rule of a layer is under it
under-own : (base top : ℕ) (before : Option (ℕ × ℕ)) (rule : ℕ × ℕ) → Follows base top before rule → are_under top rule ≡ true
under-own base top before rule follows = rw (lt-ltb rule.0 top follows.left, lt-ltb rule.1 top follows.right) refl

-- and one of the layer above is not
under-next : (top here : ℕ) (before : Option (ℕ × ℕ)) (rule : ℕ × ℕ) → Follows top here before rule → are_under top rule ≡ false
under-next top here before rule follows = let floor = follows.floor in grind (arith, nat_tests, floor)

-- so a layer ends where the first rule is not under it
layer_len-is : (base top here : ℕ) (before : Option (ℕ × ℕ)) (layer : List (ℕ × ℕ)) (more : List (List (ℕ × ℕ))) → IsLayer base top before layer
    → AreLayers top here more → prefix_len (are_under top) (layer ++ rules_of more) ≡ length layer
unfolding IsLayer AreLayers rules_of
layer_len-is base top here before [] [] all are = refl
layer_len-is base top here before [] ([] ∷ more) all are = absurd (omega (arith, are.0))
layer_len-is base top here before [] ((rule ∷ rules) ∷ more) all are = rw (under-next top here None rule are.1.0) refl
layer_len-is base top here before (rule ∷ layer) more all are =
    rw (under-own base top before rule all.0) (omega (arith, layer_len-is base top here (Some rule) layer more all.1 are))

-- the first rules of a layer were put; all bits are those
pub record IsPuttingLayer (base i : ℕ) (layer : List (ℕ × ℕ)) (before : Option (ℕ × ℕ)) (bits all : List Bool) : Type 0 where
  pub top : ℕ
  pub rest : IsLayer base top before (drop i layer)
  pub joined : bits ++ told_bits (rule_numbers base before (drop i layer)) ≡ all

-- none was put
pub layer-starts : (base top : ℕ) (layer : List (ℕ × ℕ)) (before bits : List Bool) → IsLayer base top None layer
    → bits ≡ before ++ number_bits (length layer - 1) → IsPuttingLayer base 0 layer None bits (before ++ one_layer_bits base layer)
unfolding one_layer_bits
layer-starts base top layer before bits all is = record {
  top = top;
  rest = all;
  joined = ap (λ bits. bits ++ told_bits (rule_numbers base None layer)) is
      ∙ append_assoc before (number_bits (length layer - 1)) (told_bits (rule_numbers base None layer));
}

module _ {base i : ℕ} {layer : List (ℕ × ℕ)} {before : Option (ℕ × ℕ)} {bits all : List Bool} (putting : IsPuttingLayer base i layer before bits all) where
  -- the next one follows
  pub layer-next : i < length layer → Follows base putting.top before (get_or layer i (0, 0))
  unfolding IsLayer
  layer-next some = (subst (IsLayer base putting.top before) (drop_more layer i (0, 0) some) putting.rest).0

  -- one was put
  pub layer-more : (rule : ℕ × ℕ) (next : List Bool) → i < length layer → rule ≡ get_or layer i (0, 0)
      → next ≡ (bits ++ number_bits (rule.0 - least_left before)) ++ number_bits (rule.1 - least_right base before rule.0)
      → IsPuttingLayer base (i + 1) layer (Some rule) next all
  unfolding IsLayer rule_numbers told_bits
  layer-more rule next some rule_is is =
      let split : drop i layer ≡ rule ∷ drop (i + 1) layer = drop_more layer i (0, 0) some ∙ ap (λ rule. rule ∷ drop (i + 1) layer) (sym rule_is) in
      let left = number_bits (rule.0 - least_left before) in
      let right = number_bits (rule.1 - least_right base before rule.0) in
      let others = told_bits (rule_numbers base (Some rule) (drop (i + 1) layer)) in
      record {
        top = putting.top;
        rest = (subst (IsLayer base putting.top before) split putting.rest).1;
        joined = ap (λ bits. bits ++ others) is ∙ append_assoc (bits ++ left) right others ∙ append_assoc bits left (right ++ others)
            ∙ ap (λ rules. bits ++ told_bits (rule_numbers base before rules)) (sym split) ∙ putting.joined;
      }

  -- all were put
  pub layer-ends : length layer ≤ i → bits ≡ all
  unfolding rule_numbers told_bits
  layer-ends over =
      sym (append-nil bits) ∙ ap (λ rules. bits ++ told_bits (rule_numbers base before rules)) (sym (drop_all i layer over)) ∙ putting.joined

-- the first layers were put; all bits are those
pub record IsPutting (base top : ℕ) (rest : List (ℕ × ℕ)) (bits all : List Bool) : Type 0 where
  pub layers : List (List (ℕ × ℕ))
  pub is : rest ≡ rules_of layers
  pub are : AreLayers base top layers
  pub joined : bits ++ layers_bits base top layers ≡ all
  pub room : top + length rest ≤ 2 ^ 26

-- none was put
pub putting-starts : (terminals : ℕ) (rules : List (ℕ × ℕ)) (before : List Bool) → AreInOrder terminals rules → terminals + length rules ≤ 2 ^ 26
    → IsPutting 0 terminals rules before (before ++ rules_bits terminals rules)
putting-starts terminals rules before order room =
    let it = in_order-layers terminals rules order in
    record {
      layers = it.0;
      is = it.1;
      are = it.2;
      joined = ap (λ bits. before ++ bits) (sym (ap (rules_bits terminals) it.1 ∙ rules_bits-layers terminals it.0 it.2));
      room = room;
    }

-- the next layer
pub record IsNextLayer (base top : ℕ) (rest : List (ℕ × ℕ)) (bits all : List Bool) : Type 0 where
  pub layer : List (ℕ × ℕ)
  pub some : 0 < length layer
  pub is : IsLayer base top None layer
  pub len : prefix_len (are_under top) rest ≡ length layer
  pub front : take (length layer) rest ≡ layer
  pub few : top + length layer ≤ 2 ^ 26
  pub after : IsPutting top (top + length layer) (drop (length layer) rest) (bits ++ one_layer_bits base layer) all

-- the next layer, cut off from the rules that are left
pub record IsCut (base top : ℕ) (rest layer back : List (ℕ × ℕ)) (bits all : List Bool) : Type 0 where
  pub some : 0 < length layer
  pub is : IsLayer base top None layer
  pub few : top + length layer ≤ 2 ^ 26
  pub shorter : length back < length rest
  pub after : IsPutting top (top + length layer) back (bits ++ one_layer_bits base layer) all

-- there is one while rules are left
pub next_layer : (base top : ℕ) (rest : List (ℕ × ℕ)) (bits all : List Bool) (layers : List (List (ℕ × ℕ))) → 0 < length rest
    → rest ≡ rules_of layers → AreLayers base top layers → bits ++ layers_bits base top layers ≡ all → top + length rest ≤ 2 ^ 26
    → IsNextLayer base top rest bits all
unfolding AreLayers rules_of layers_bits
next_layer base top rest bits all [] some is are joined room = absurd (omega (arith, some, ap length is))
next_layer base top rest bits all (layer ∷ layers) some is are joined room =
    let drops : drop (length layer) rest ≡ rules_of layers = ap (drop (length layer)) is ∙ drop_at layer (rules_of layers) (length layer) refl in
    let long : length rest ≡ length layer + length (rules_of layers) = ap length is ∙ length-append layer (rules_of layers) in
    record {
      layer = layer;
      some = are.0;
      is = are.1;
      len = ap (prefix_len (are_under top)) is ∙ layer_len-is base top (top + length layer) None layer layers are.1 are.2;
      front = ap (take (length layer)) is ∙ take_at layer (rules_of layers) (length layer) refl;
      few = omega (arith, room, long);
      after = record {
        layers = layers;
        is = drops;
        are = are.2;
        joined = append_assoc bits (one_layer_bits base layer) (layers_bits top (top + length layer) layers) ∙ joined;
        room = omega (arith, room, long, ap length drops);
      };
    }

-- none is left
putting-ends : (base top : ℕ) (rest : List (ℕ × ℕ)) (bits all : List Bool) (layers : List (List (ℕ × ℕ))) → length rest ≡ 0
    → rest ≡ rules_of layers → AreLayers base top layers → bits ++ layers_bits base top layers ≡ all → bits ≡ all
unfolding AreLayers rules_of layers_bits
putting-ends base top rest bits all [] none is are joined = sym (append-nil bits) ∙ joined
putting-ends base top rest bits all (layer ∷ layers) none is are joined =
    absurd (omega (arith, none, ap length is, length-append layer (rules_of layers), are.0))

module _ {base top : ℕ} {rest : List (ℕ × ℕ)} {bits all : List Bool} (putting : IsPutting base top rest bits all) where
  -- layers follow while rules are left
  pub putting-next : 0 < length rest → IsNextLayer base top rest bits all
  putting-next some = next_layer base top rest bits all putting.layers some putting.is putting.are putting.joined putting.room

  -- they are cut off where a rule is not under them
  module _ (some : 0 < length rest) (len : ℕ) (len_is : len ≡ prefix_len (are_under top) rest) (layer back : List (ℕ × ℕ))
      (layer_is : layer ≡ take len rest) (back_is : back ≡ drop len rest) where
    pub putting-cut : IsCut base top rest layer back bits all
    putting-cut =
        let next = putting-next some in
        let same : len ≡ length next.layer = len_is ∙ next.len in
        let front : layer ≡ next.layer = layer_is ∙ ap (λ n. take n rest) same ∙ next.front in
        let others : back ≡ drop (length next.layer) rest = back_is ∙ ap (λ n. drop n rest) same in
        rw (front, others) (record {
          some = next.some;
          is = next.is;
          few = omega (arith, next.few);
          shorter = omega (arith, length-drop (length next.layer) rest, next.some, some);
          after = next.after;
        })

  -- all were put
  pub putting-done : length rest ≡ 0 → bits ≡ all
  putting-done none = putting-ends base top rest bits all putting.layers none putting.is putting.are putting.joined
