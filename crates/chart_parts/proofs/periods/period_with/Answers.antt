use Rattle.std.proofs.Common.{◌≡◌, ◌∙◌, ap, length, map, refl, rules}
use Rattle.std.specs.Prelude.{◌==◌}
use Rattle.std.specs.List.{dedup}
use Rattle.k2_tree.specs.TreeBits.{morton_bits}
use Rattle.snapshots.specs.View.{widths_in}
use Rattle.chart_parts.specs.LeafOrder.{distinct_codes, ends_of, leaf_codes, leaf_order}
use Rattle.chart_parts.specs.PeriodWith.{codes_of_heads, without_blocks}
use Rattle.chart_parts.proofs.LeafEndLemmas.{Rises-distinct_codes}
use Rattle.chart_parts.proofs.LeafOrderLemmas.{codes-leaves, period_with-none, places-leaves}
use Rattle.chart_parts.proofs.periods.period_with.Goals as goal

pub returns-then-is_empty : goal.returns-then-is_empty
returns-then-is_empty c =
    let none : length c.args.heads.now ≡ 0 = search rules in
    let parts = ap without_blocks c.in_ok-present.ensures
    ∙ period_with-none c.args.frame c.args.objects c.args.heads.now c.args.lengths.now none c.requires.same in
    rw parts at c.without_blocks.ensures

pub tree_of-requires-clause-ascending : goal.tree_of-requires-clause-ascending
unfolding distinct_codes
tree_of-requires-clause-ascending c =
    let codes = codes_of_heads c.args.frame c.args.heads.now in
    rw (c.in_ok-leaves.ensures.ok, codes-leaves c.args.frame c.args.heads.now) (Rises-distinct_codes codes)

pub returns : goal.returns
unfolding distinct_codes
returns c =
    let frame = c.args.frame in
    let heads = c.args.heads.now in
    let codes = codes_of_heads frame heads in
    let leaves = c.in_ok-leaves.ensures.ok in
    let offsets : c.new.result ≡ map (λ head. head.offset) heads = c.new.ensures ∙ c.in_ok-offsets_of.ensures in
    let lasts : c.in_ok-ends_of.field-0 ≡ ends_of (leaf_codes codes) =
    c.in_ok-ends_of.ensures ∙ ap (λ all. ends_of (map (λ leaf. leaf.code) all)) (c.as_slice.ensures.value ∙ leaves)
    ∙ ap ends_of (codes-leaves frame heads) in
    let perm : c.new-2.result ≡ leaf_order codes =
    c.new-2.ensures ∙ c.in_ok-places_of.ensures ∙ ap (map (λ leaf. leaf.place)) (c.as_slice-2.ensures.value ∙ leaves)
    ∙ places-leaves frame heads (leaf_order codes) in
    let lengths : c.new-3.result ≡ c.args.lengths.now = c.new-3.ensures ∙ c.in_ok-to_vec.ensures.items_if_clones_equal (λ x y same. same) in
    let tree : c.in_ok-tree_of.field-0 ≡ morton_bits (widths_in frame) (distinct_codes codes) =
    c.in_ok-tree_of.ensures.ok
    ∙ ap (λ all. morton_bits (widths_in frame) (dedup (λ a b. a == b) (map (λ leaf. leaf.code) all))) leaves
    ∙ ap (λ all. morton_bits (widths_in frame) (dedup (λ a b. a == b) all)) (codes-leaves frame heads) in
    let present = c.present.view_is ∙ c.in_ok-present.ensures in
    rw (present, offsets, tree, lasts, perm, lengths) refl
