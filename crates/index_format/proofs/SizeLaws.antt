-- How many bytes a file that holds an outline has at most: fewer than an index may have.
use Rattle.std.proofs.Common.{◌≡◌, ℕ, ◌+◌, ◌*◌, ◌-◌, ◌^◌, ◌<◌, ◌≤◌, List, ◌++◌, length, refl, ap, ◌∙◌, arith}
use Rattle.std.specs.List.{range_with_len}
use Rattle.std.proofs.lemmas.List.{length-append}
use Rattle.spiral_code.specs.Spiral.{square}
use Rattle.track_types.specs.Limits.{limit_of}
use Rattle.track_types.specs.declared.limit.LimitKind.TheVariants.{Index}
use Rattle.rule_store.specs.Flaws.{reach_limit}
use Rattle.rule_store.specs.View.{RulesView}
use Rattle.index_format.specs.declared.outline.Outline.{Outline}
use Rattle.index_format.specs.Spelling.{bit_bytes, header_bytes}
use Rattle.index_format.specs.LayerLists.{rules_of}
use Rattle.index_format.specs.OutlineBlocks.{blocks_bits}
use Rattle.index_format.specs.OutlineFile.{frame_rules, outline_bits, outline_bytes, outline_header}
use Rattle.index_format.specs.OutlineLists.{gap_bits}
use Rattle.index_format.specs.OutlineRules.{rules_bits}
use Rattle.index_format.specs.IsOutline.{AreInOrder, IsOutline}
use Rattle.index_format.proofs.AscentLemmas.{area-small, objects-ascend, values-ascend}
use Rattle.index_format.proofs.BitLemmas.{length-bit_bytes}
use Rattle.index_format.proofs.BlockSizeLemmas.{blocks-few, blocks_bits-short}
use Rattle.index_format.proofs.LayerBits.{rules_bits-layers}
use Rattle.index_format.proofs.LengthLaws.{length-header_bytes}
use Rattle.index_format.proofs.SizeLemmas.{gaps_bits-short, layers_bits-short, number_bits-short}
use Rattle.index_format.proofs.SplitLemmas.{in_order-layers}

-- the rules of an outline take at most 104 bits each
rules_bits-short : (terminals : ℕ) (rules : List (ℕ × ℕ)) → terminals ≤ 2 ^ 25 → length rules ≤ 2 ^ 25 → AreInOrder terminals rules
    → length (rules_bits terminals rules) ≤ 104 * length rules
rules_bits-short terminals rules few_terminals few order =
    let it = in_order-layers terminals rules order in
    let bound = layers_bits-short 0 terminals it.0 it.2 in
    let long : length rules ≡ length (rules_of it.0) = ap length it.1 in
    let same = ap (λ rules. length (rules_bits terminals rules)) it.1 ∙ ap length (rules_bits-layers terminals it.0 it.2) in
    omega (arith, same, long, bound (omega (arith, few_terminals, few, long)) (omega (arith, few, long)))

module _ (outline : Outline) (is : IsOutline outline) where
  -- an object takes at most 43 bits
  objects_bits-short : length (gap_bits outline.objects) ≤ 43 * length outline.objects
  unfolding gap_bits
  objects_bits-short =
      gaps_bits-short 43 (2 ^ 32 - 1) 0 outline.objects (λ value low. number_bits-short 32 value (omega arith) (omega (arith, low)))
      (objects-ascend outline.objects is.objects is.short_objects)

  -- a value takes at most 60
  values_bits-short : length (gap_bits outline.alphabet) ≤ 60 * length outline.alphabet
  unfolding gap_bits
  values_bits-short =
      let height = outline.frame.height in
      gaps_bits-short 60 (square (2 * reach_limit height + 1)) 0 outline.alphabet
      (λ value low. number_bits-short 49 value (omega arith) (omega (arith, low, area-small height is.header.limit)))
      (values-ascend height outline.alphabet is.alphabet is.near_values)

  -- how many bits follow the header
  outline_bits-short : length (outline_bits outline) ≤ 7906918400
  unfolding outline_bits
  outline_bits-short =
      let view : RulesView = frame_rules outline.frame outline.alphabet outline.rules in
      let many = length outline.objects in
      let objects = gap_bits outline.objects in
      let values = gap_bits outline.alphabet in
      let rules = rules_bits (length outline.alphabet) outline.rules in
      let blocks = blocks_bits outline.frame view outline.blocks (range_with_len 0 many) outline.symbols in
      omega (
        arith,
        length-append (objects ++ values ++ rules) blocks,
        length-append (objects ++ values) rules,
        length-append objects values,
        objects_bits-short,
        values_bits-short,
        rules_bits-short (length outline.alphabet) outline.rules is.few_values is.few_rules is.rules,
        blocks_bits-short outline.frame view many is.header (omega (arith, is.few_values, is.few_rules)) outline.blocks outline.symbols is.order is.each,
        blocks-few outline.frame view many outline.blocks outline.symbols is.order is.each,
        is.few,
        is.periods,
        is.few_values,
        is.few_rules,
        is.few_symbols,
      )

  -- how many bytes the file has
  pub outline_bytes-short : length (outline_bytes outline) ≤ 988364872
  unfolding outline_bytes
  outline_bytes-short =
      let header : length (header_bytes (outline_header outline)) ≡ 72 =
      length-header_bytes (outline_header outline) ∙ rw is.spelling refl in
      omega (
        arith,
        length-append (header_bytes (outline_header outline)) (bit_bytes (outline_bits outline)),
        header,
        length-bit_bytes (outline_bits outline),
        outline_bits-short,
      )

  -- these are fewer than the greatest number
  pub outline_bytes-within : length (outline_bytes outline) < limit_of Index
  outline_bytes-within = omega (arith, outline_bytes-short)
