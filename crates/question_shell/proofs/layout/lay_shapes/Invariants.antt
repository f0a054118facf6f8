use Rattle.std.proofs.Common.{◌≡◌, ◌+◌, ◌-◌, ℕ, List, ◌∷◌, length, map}
use Rattle.question_shell.specs.Lines.{words_of}
use Rattle.question_shell.specs.RegionWords.{shape_texts, shapes_cut}
use Rattle.question_shell.specs.declared.shape_words.ShapeWords.{ShapeWords}
use Rattle.question_shell.proofs.LayoutLemmas.{joined}
use Rattle.question_shell.proofs.layout.lay_shapes.Given as goal

-- after `done` of `count` shapes
pub record AreCut (count done : ℕ) (words left : List (List ℕ)) (first : ShapeWords) (more : List ShapeWords) : Type 0 where
  pub value : shapes_cut count words
      ≡ joined (shape_texts first ∷ map shape_texts more) (shapes_cut (count - done) left)
  pub many : length more + 1 ≡ done

abbrev pub invariant-loop : goal.invariant-loop
invariant-loop l = AreCut l.count l.counter (words_of l.line) (words_of l.left) l.first l.more.items
