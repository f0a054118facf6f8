use Rattle.std.proofs.Common.{◌≡◌, ◌∙◌, [], ◌∷◌, ◌++◌, ap, length, arith}
use Rattle.std.proofs.lemmas.Bool.Decides.{nat_tests}
use Rattle.std.proofs.lemmas.List.{append-nil, append_assoc, nil_from_length}
use Rattle.gridding.specs.GriddedRows.{AreBlocksOf}
use Rattle.gridding.proofs.gridded_rows.GriddedRows.add.Goals.{else-is_empty-via-then-is_empty+in_ok-add+else-branch, else-is_empty-via-else-is_empty}
use Rattle.gridding.proofs.gridded_rows.GriddedRows.add.Goals as goal

pub returns-then-branch-clause-rows : goal.returns-then-branch-clause-rows
returns-then-branch-clause-rows c = λ rows held.
    let no_length : length c.args.self.now.loose.items ≡ 0 = grind (arith, nat_tests, c.if-is_empty.true, c.is_empty.ensures) in
    let none : c.args.self.now.loose.items ≡ [] = nil_from_length c.args.self.now.loose.items no_length in
    record {
      front = held.front ++ (c.args.row ∷ []);
      all = grind (arith, held.all, none, append-nil held.front, append-nil (held.front ++ (c.args.row ∷ [])));
      blocks = (rw c.if-branch.true at c.in_ok-add.ensures) held.front held.blocks;
    }

pub returns-clause-rows : goal.returns-clause-rows
returns-clause-rows c = λ rows held.
    let kept : AreBlocksOf held.front c.else-is_empty.self.1.0 = elim c.else-is_empty.branch [
      | else-is_empty-via-then-is_empty+in_ok-add+else-branch w ↦
          rw w.self-is ((rw w.if-branch.false at w.in_ok-add.ensures).0 held.front held.blocks)
      | else-is_empty-via-else-is_empty w ↦ rw w.self-is held.blocks
    ] in
    record {
      front = held.front;
      all = rw c.in_ok-push.ensures.items
          (ap (λ all. all ++ (c.args.row ∷ [])) held.all
          ∙ append_assoc held.front c.args.self.now.loose.items (c.args.row ∷ []));
      blocks = kept;
    }
