-- What follows the header in a file that holds an outline: what is read is an outline and spelled so, and an outline is read again.
use Rattle.std.proofs.Common.{◌≡◌, ℕ, ◌+◌, ◌-◌, ◌*◌, ◌/◌, ◌%◌, ◌^◌, ◌<◌, ◌≤◌, false, nat_lt, Bool, List, [], ◌++◌, length, take, drop, Result, Ok, Err, refl, sym, ap, ◌∙◌, arith, append_assoc}
use Rattle.std.specs.Prelude.{IfOk, None}
use Rattle.std.specs.List.{range_with_len}
use Rattle.std.proofs.lemmas.Bool.{ltb-false, le-ltb}
use Rattle.std.proofs.lemmas.List.{length-append, length-drop, take_all, take_at, drop_at, take-append-drop}
use Rattle.packed_bits.specs.Bits.{ones_of}
use Rattle.spiral_code.specs.Spiral.{square}
use Rattle.rule_store.specs.Flaws.{reach_limit}
use Rattle.track_types.specs.declared.flaw.Flaw.{Flaw}
use Rattle.track_types.specs.declared.flaw.Kind.TheVariants.{Pad, Extra}
use Rattle.track_types.specs.declared.flaw.Section.TheVariants.{End}
use Rattle.track_types.specs.Limits.{limit_of}
use Rattle.track_types.specs.Spelling.{holds_parts, spelling_of}
use Rattle.track_types.specs.declared.limit.LimitKind.TheVariants.{Symbols}
use Rattle.index_format.specs.declared.header.Header.{Header}
use Rattle.index_format.specs.declared.outline.Outline.{Outline}
use Rattle.index_format.specs.Spelling.{bits_in, bit_bytes, bytes_for}
use Rattle.index_format.specs.Fields.{flaw_at, items_at}
use Rattle.index_format.specs.OutlineLists.{object_in, value_in, gap_bits}
use Rattle.index_format.specs.OutlineRules.{rules_in, rules_bits}
use Rattle.index_format.specs.OutlineBlocks.{Told, blocks_in, blocks_bits}
use Rattle.index_format.specs.OutlineFile.{ended_bits, frame_rules, outline_after, outline_bits, outline_header}
use Rattle.index_format.specs.IsOutline.{IsOutline}
use Rattle.index_format.proofs.BitLemmas.{IsBytes, length-bits_in, length-bit_bytes, take-bits_in, spare-bit_bytes, bit_bytes-take}
use Rattle.index_format.proofs.Laws.{then_ok, guard_ok}
use Rattle.index_format.specs.Headers.{IsHeader}
use Rattle.index_format.proofs.GapLaws.{gaps-again, gaps-only, objects-gapped, values-gapped}
use Rattle.index_format.proofs.AscentLemmas.{small_values, ascends-rises, objects-ascend, objects-short, values-ascend, values-near}
use Rattle.index_format.proofs.LayerLaws.{rules-again}
use Rattle.index_format.proofs.LayerReadLaws.{rules-only}
use Rattle.index_format.proofs.OutlineBlockLaws.{outline_blocks-again, outline_blocks-only}

-- the header of an outline is in its ranges
pub outline_header-is : (outline : Outline) → IsOutline outline → IsHeader (outline_header outline)
outline_header-is outline is =
    let frame = is.header in
    record {
      frame = frame;
      sizes = record {
        period = (frame.periods.some, frame.periods.limit);
        height = (frame.some, frame.low);
        objects = (is.some, is.few);
        span = (frame.long, frame.short);
        blocks = is.periods;
        alphabet = is.few_values;
        rules = is.few_rules;
        symbols = omega arith;
        untold = λ silent. refl;
      };
    }

-- bits after the last element: fewer than eight, all of them 0
pub record AreSpare (bits : List Bool) : Type 0 where
  pub few : length bits < 8
  pub zero : ones_of bits ≡ 0

module _ {A : Type 0} (bits : List Bool) (value : A) where
  -- after spare bits all is read
  pub ended_bits-spare : AreSpare bits → ended_bits bits value ≡ Ok value
  ended_bits-spare spare =
      let part : length bits % 8 ≡ length bits = omega (arith, spare.few) in
      let all : take (length bits % 8) bits ≡ bits = take_all (length bits % 8) bits (omega (arith, part)) in
      let padded : nat_lt 0 (ones_of (take (length bits % 8) bits)) ≡ false = rw all (le-ltb 0 (ones_of bits) (omega (arith, spare.zero))) in
      let none : nat_lt 0 (length bits / 8) ≡ false = le-ltb 0 (length bits / 8) (omega (arith, spare.few)) in
      rw (padded, none) refl

  -- what is read to the end is followed by spare bits alone
  pub ended_bits-ok : (Q : A → Type 0) → (AreSpare bits → Q value) → IfOk (ended_bits bits value) Q
  ended_bits-ok Q held =
      guard_ok Q _ (flaw_at End 0 0 Pad) (nat_lt 0 (ones_of (take (length bits % 8) bits))) (λ clean.
      guard_ok Q (Ok value) (flaw_at End 0 0 Extra) (nat_lt 0 (length bits / 8)) (λ short.
      let few : length bits < 8 = omega (arith, ltb-false 0 (length bits / 8) short) in
      let all : take (length bits % 8) bits ≡ bits = take_all (length bits % 8) bits (omega (arith, few)) in
      held (record { few = few; zero = omega (arith, ap ones_of all, ltb-false 0 (ones_of (take (length bits % 8) bits)) clean) })))

-- the bytes of bits have these and spare ones
spelled-bits : (bits : List Bool) → let behind = drop (length bits) (bits_in (bit_bytes bits)) in
    (bits_in (bit_bytes bits) ≡ bits ++ behind) × AreSpare behind
spelled-bits bits =
    let all = bits_in (bit_bytes bits) in
    let long = length-bits_in (bit_bytes bits) in (
      sym (take-append-drop (length bits) all) ∙ ap (λ front. front ++ drop (length bits) all) (take-bits_in bits),
      record { few = omega (arith, long, length-bit_bytes bits, length-drop (length bits) all); zero = spare-bit_bytes bits },
    )

-- bytes that have bits and spare ones are the bytes of the bits
bytes-spelled : (bytes : List ℕ) (bits left : List Bool) → IsBytes bytes → bits_in bytes ≡ bits ++ left → AreSpare left
    → bytes ≡ bit_bytes bits
bytes-spelled bytes bits left fits split spare =
    let long : 8 * length bytes ≡ length bits + length left =
    sym (length-bits_in bytes) ∙ ap length split ∙ length-append bits left in
    let front : take (length bits) (bits_in bytes) ≡ bits = ap (take (length bits)) split ∙ take_at bits left (length bits) refl in
    let back : drop (length bits) (bits_in bytes) ≡ left = ap (drop (length bits)) split ∙ drop_at bits left (length bits) refl in
    let filled : length bytes ≡ bytes_for (length bits) = omega (arith, long, spare.few) in
    sym (bit_bytes-take (length bits) bytes fits filled (ap ones_of back ∙ spare.zero)) ∙ ap bit_bytes front

-- an outline is read from its bytes
pub outline_after-again : (outline : Outline) → IsOutline outline
    → outline_after (outline_header outline) (bit_bytes (outline_bits outline)) ≡ Ok outline
unfolding outline_after outline_bits gap_bits
outline_after-again outline is =
    let frame = outline.frame in
    let view = frame_rules frame outline.alphabet outline.rules in
    let bits = outline_bits outline in
    let left = drop (length bits) (bits_in (bit_bytes bits)) in
    let spelled = spelled-bits bits in
    let r3 = blocks_bits frame view outline.blocks (range_with_len 0 (length outline.objects)) outline.symbols ++ left in
    let r2 = rules_bits (length outline.alphabet) outline.rules ++ r3 in
    let r1 = gap_bits outline.alphabet ++ r2 in
    let text : bits_in (bit_bytes bits) ≡ gap_bits outline.objects ++ r1 = spelled.0 ∙ (simp append_assoc refl) in
    let blocks = outline_blocks-again outline is left in
    rw (
      text,
      gaps-again objects-gapped [] outline.objects r1 (objects-ascend outline.objects is.objects is.short_objects),
      gaps-again (values-gapped frame.height (small_values frame.height is.header.limit)) [] outline.alphabet r2
          (values-ascend frame.height outline.alphabet is.alphabet is.near_values),
      rules-again (frame_rules frame outline.alphabet []) outline.rules r3 is.rules is.near_rules
          (omega (arith, is.few_rules, is.few_values)),
      blocks.read_is,
      blocks.blocks_are,
      blocks.symbols_are,
      ended_bits-spare left outline spelled.1,
    ) refl

-- a step whose answer is known when it is one
given : {A : Type 0} (read : Result A Flaw) → IfOk read (λ it. read ≡ Ok it)
given (Ok it) = refl
given (Err flaw) = tt

-- a header of the same numbers is the same
header-same : (h : Header) (objects alphabet rules : ℕ) → objects ≡ h.objects → alphabet ≡ h.alphabet → rules ≡ h.rules → h.symbols ≡ 0
    → record { frame = h.frame; objects = objects; alphabet = alphabet; rules = rules; symbols = 0 } ≡ h
header-same h objects alphabet rules objects_are values_are rules_are none = rw (objects_are, values_are, rules_are, ← none) refl

-- what was read is an outline, and header and bytes are its
pub outline_after-takes : (h : Header) → IsHeader h → holds_parts (spelling_of h.frame.version) ≡ false → (bytes : List ℕ) → IsBytes bytes
    → IfOk (outline_after h bytes) (λ outline. IsOutline outline × (outline_header outline ≡ h) × (bytes ≡ bit_bytes (outline_bits outline)))
unfolding outline_after outline_bits gap_bits
outline_after-takes h is silent bytes fits =
    let frame = h.frame in
    let bits = bits_in bytes in
    let greatest = square (2 * reach_limit frame.height + 1) in
    let small = small_values frame.height is.frame.limit in
    then_ok _ _ (items_at object_in h.objects [] bits) (given (items_at object_in h.objects [] bits)) (λ objects r1.
    let o = gaps-only objects-gapped h.objects [] bits objects.0 objects.1 r1 in
    then_ok _ _ (items_at (value_in frame.height) h.alphabet [] objects.1) (given (items_at (value_in frame.height) h.alphabet [] objects.1)) (λ alphabet r2.
    let a = gaps-only (values-gapped frame.height small) h.alphabet [] objects.1 alphabet.0 alphabet.1 r2 in
    let plain = frame_rules frame alphabet.0 [] in
    then_ok _ _ (rules_in plain h.rules alphabet.1) (given (rules_in plain h.rules alphabet.1)) (λ rules r3.
    let r = rules-only plain h.rules rules.0 alphabet.1 rules.1 r3 in
    let view = frame_rules frame alphabet.0 rules.0 in
    let none : Told = record { blocks = []; symbols = []; next = 0; last = None } in
    then_ok _ _ (blocks_in h.objects frame view 0 none rules.1) (given (blocks_in h.objects frame view 0 none rules.1)) (λ told r4.
    let few_values : length alphabet.0 ≤ limit_of Symbols = omega (arith, ap length a.whole, a.long, is.sizes.alphabet) in
    let few_rules : length rules.0 ≤ limit_of Symbols = omega (arith, r.long, is.sizes.rules) in
    let b = outline_blocks-only frame alphabet.0 rules.0 h.objects rules.1 told.0 told.1 is.frame few_values few_rules r.sound r4 in
    let outline : Outline = record {
      frame = frame;
      objects = objects.0;
      alphabet = alphabet.0;
      rules = rules.0;
      blocks = told.0.blocks;
      symbols = told.0.symbols;
    } in
    ended_bits-ok told.1 outline _ (λ spare.
    let objects_are : objects.0 ≡ o.numbers = o.whole in
    let values_are : alphabet.0 ≡ a.numbers = a.whole in
    let many : length objects.0 ≡ h.objects = ap length objects_are ∙ o.long in
    let values : length alphabet.0 ≡ h.alphabet = ap length values_are ∙ a.long in
    let are = is.sizes in
    let of_objects : bits ≡ gap_bits objects.0 ++ objects.1 = o.taken ∙ ap (λ list. gap_bits list ++ objects.1) (sym objects_are) in
    let of_values : objects.1 ≡ gap_bits alphabet.0 ++ alphabet.1 = a.taken ∙ ap (λ list. gap_bits list ++ alphabet.1) (sym values_are) in
    let of_blocks : rules.1 ≡ blocks_bits frame view told.0.blocks (range_with_len 0 (length objects.0)) told.0.symbols ++ told.1 =
    b.spelled ∙ ap (λ n. blocks_bits frame view told.0.blocks (range_with_len 0 n) told.0.symbols ++ told.1) (sym many) in
    let split : bits ≡ outline_bits outline ++ told.1 =
    of_objects ∙ ap (λ tail. gap_bits objects.0 ++ tail) (of_values ∙ ap (λ tail. gap_bits alphabet.0 ++ tail)
    (r.bits_are ∙ ap (λ tail. rules_bits (length alphabet.0) rules.0 ++ tail) of_blocks)) ∙ (simp append_assoc refl) in (
      record {
        spelling = silent;
        header = is.frame;
        some = rw many are.objects.0;
        few = rw many are.objects.1;
        periods = rw many are.blocks;
        objects = rw objects_are (ascends-rises (2 ^ 32 - 1) 0 o.numbers o.ascends);
        short_objects = rw objects_are (objects-short o.numbers o.ascends);
        alphabet = rw values_are (ascends-rises greatest 0 a.numbers a.ascends);
        near_values = rw values_are (values-near frame.height a.numbers a.ascends);
        few_values = rw values are.alphabet;
        few_rules = rw r.long are.rules;
        rules = r.order;
        near_rules = r.sound;
        order = b.order;
        each = rw many b.each;
        symbols = b.symbols;
        few_symbols = b.few_symbols;
      },
      header-same h (length objects.0) (length alphabet.0) (length rules.0) many values r.long
          (are.untold silent),
      bytes-spelled bytes (outline_bits outline) told.1 fits split spare,
    ))))))
