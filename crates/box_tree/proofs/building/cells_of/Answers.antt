use Rattle.std.proofs.Common.{◌≡◌, ℕ, ◌^◌, ◌<◌, ◌++◌, ◌∷◌, [], get_or, map, take, arith, sym}
use Rattle.std.proofs.Common.{ap, subst, ◌∙◌}
use Rattle.std.proofs.lemmas.List.{map-append, take_more}
use Rattle.std.proofs.lemmas.List.Elements.{All-append, All-cons, All-nil}
use Rattle.track_types.specs.declared.limit.TheConstants.{MAX_HEIGHT}
use Rattle.k2_tree.specs.Morton.{interleaved}
use Rattle.k2_tree.proofs.MortonLemmas.{interleaved-morton_row}
use Rattle.box_tree.specs.Tree.{AreCells, code_at}
use Rattle.box_tree.proofs.building.cells_of.Goals as goal

pub loop-code-preserved : goal.loop-code-preserved
loop-code-preserved c =
    let l = c.loop-code in
    let codes = c.args.codes.now in
    let code : ℕ = get_or codes l.code-index 0 in
    let cell : ℕ × ℕ = (c.column_of.result, c.row_of.result) in
    let same : code_at cell ≡ code =
    ap (λ column. interleaved MAX_HEIGHT c.row_of.result column) c.column_of.ensures.value
    ∙ rw c.row_of.ensures.value (interleaved-morton_row MAX_HEIGHT code (c.requires l.code-index 0 (omega arith))) in
    let small = λ (cell : ℕ × ℕ). (cell.0 < 2 ^ MAX_HEIGHT) × (cell.1 < 2 ^ MAX_HEIGHT) in
    let pushed = c.in_ok-push.ensures.items in (
      ap (map code_at) pushed ∙ map-append code_at l.cells.items (cell ∷ [])
          ∙ ap (λ cs. cs ++ code_at cell ∷ []) l.invariant.0 ∙ ap (λ n. take l.code-index codes ++ n ∷ []) same
          ∙ sym (take_more codes l.code-index 0 (omega arith)),
      subst AreCells (sym pushed) (All-append small l.cells.items (cell ∷ []) l.invariant.1
          (All-cons small cell [] (c.column_of.ensures.small, c.row_of.ensures.small) (All-nil small))),
    )
