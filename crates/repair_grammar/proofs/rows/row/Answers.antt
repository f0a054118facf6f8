use Rattle.std.proofs.Common.{◌≡◌, ℕ, ◌+◌, List, [], ◌∷◌, ◌++◌, drop, arith, refl, sym, ◌∙◌, ap}
use Rattle.repair_grammar.specs.Blocks.{split_by}
use Rattle.repair_grammar.specs.Threads.{marked_row}
use Rattle.repair_grammar.proofs.BlockLemmas.{split_by-next, split_by-none, sum-next}
use Rattle.repair_grammar.proofs.RowLemmas.{row_none, row_more}
use Rattle.repair_grammar.proofs.rows.row.Goals as goal

pub each-init : goal.each-init
each-init c = record {
  row = rw (c.in_ok-row.ensures.items, c.as_slice-lengths.ensures, c.as_slice-rest.ensures) refl;
  room = rw (c.as_slice-lengths.ensures, c.as_slice-rest.ensures) (omega (arith, c.requires));
}

pub split_at-requires : goal.split_at-requires
split_at-requires c =
    omega (arith, c.each.invariant.room, sum-next c.as_slice-lengths.result.now c.each.len-index c.each-test.true)

pub each-preserved : goal.each-preserved
each-preserved c =
    let lengths : List ℕ = c.as_slice-lengths.result.now in
    let i : ℕ = c.each.len-index in
    let row : List ℕ = c.each.row.items in
    let block : List ℕ = c.split_at.result.0.now in
    let later : List (List ℕ) = split_by (drop (i + 1) lengths) c.split_at.result.1.now in
    let next : split_by (drop i lengths) c.each.rest.now ≡ block ∷ later =
    split_by-next lengths i c.each-test.true c.each.rest.now block c.split_at.result.1.now c.split_at.ensures.front
    c.split_at.ensures.back in
    record {
      row = ap (λ xs. xs ++ marked_row later)
          (c.in_ok-extend_from_slice.ensures.items ∙ ap (λ xs. xs ++ block) c.in_ok-push.ensures.items)
          ∙ row_more row block later ∙ ap (λ blocks. row ++ marked_row blocks) (sym next) ∙ c.each.invariant.row;
      room = omega (arith, c.each.invariant.room, sum-next lengths i c.each-test.true, c.split_at.ensures.back_len);
    }

pub returns : goal.returns
returns c =
    let lengths : List ℕ = c.as_slice-lengths.result.now in
    let none : split_by (drop c.each.len-index lengths) c.each.rest.now ≡ [] =
    split_by-none lengths c.each.rest.now c.each.len-index c.each-test.false in
    c.in_ok-push-2.ensures.items ∙ ap (λ xs. c.each.row.items ++ xs) (sym row_none)
    ∙ ap (λ blocks. c.each.row.items ++ marked_row blocks) (sym none) ∙ c.each.invariant.row
