use Rattle.std.proofs.Common.{◌^◌, ◌≤◌, ◌∙◌, ◌++◌, ◌∷◌, [], ap, arith, sym}
use Rattle.std.proofs.Math.Nat.{pow-le-pow_right}
use Rattle.std.proofs.lemmas.List.FromFn.{map-range_with_len_more}
use Rattle.track_types.specs.declared.limit.TheConstants.{MAX_HEIGHT}
use Rattle.k2_tree.proofs.MortonLemmas.{morton_of-lt}
use Rattle.chart_parts.specs.Leaf.{LeafView}
use Rattle.chart_parts.specs.PeriodWith.{block_leaf, cell_of_head}
use Rattle.chart_parts.proofs.leaves.leaves_by_object.Goals as goal

pub new-requires-clause-code : goal.new-requires-clause-code
new-requires-clause-code c =
    let frame = c.args.frame in
    let most : 4 ^ frame.height ≤ 4 ^ MAX_HEIGHT = pow-le-pow_right (omega arith) c.requires.grid.limit in
    omega (
      arith,
      most,
      c.morton-code.ensures,
      morton_of-lt frame.height frame.base
          (cell_of_head c.args.heads.now c.loop-place.place),
    )

pub loop-place-preserved : goal.loop-place-preserved
loop-place-preserved c =
    let leaves = c.loop-place.leaves.items in
    let place = c.loop-place.place in
    c.in_ok-push.ensures.items
    ∙ ap (λ (leaf : LeafView). leaves ++ leaf ∷ []) c.new.ensures
    ∙ ap (λ code. leaves ++ record { code = code; place = place } ∷ []) c.morton-code.ensures
    ∙ ap (λ all. all ++ block_leaf c.args.frame c.args.heads.now place ∷ []) c.loop-place.invariant
    ∙ sym (map-range_with_len_more (block_leaf c.args.frame c.args.heads.now) 0 place place (omega arith))
