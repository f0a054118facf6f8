use Rattle.std.proofs.Common.{◌≡◌, ◌+◌, ◌*◌, ◌≤◌, ℕ, List, ◌∷◌, length, drop, map, All}
use Rattle.track_types.specs.Region.{IsShapeAsked}
use Rattle.track_types.specs.declared.shape.Shape.{Shape}
use Rattle.question_shell.specs.RegionWords.{shape_texts, shapes_of}
use Rattle.question_shell.specs.declared.shape_words.ShapeWords.{ShapeWords}
use Rattle.question_shell.proofs.LayoutLemmas.{joined}
use Rattle.question_shell.proofs.shape_reading.read_shapes.Given as goal

-- after the first shape and `done` of those after it
pub record AreRead (place next done : ℕ) (first : ShapeWords) (more : List ShapeWords) (shapes : List Shape) : Type 0 where
  pub value : shapes_of place (shape_texts first ∷ map shape_texts more)
      ≡ joined shapes (shapes_of next (map shape_texts (drop done more)))
  pub read : length shapes ≡ done + 1
  pub short : next ≤ 5 * done + 23
  pub asked : All IsShapeAsked shapes

abbrev pub invariant-loop-words : goal.invariant-loop-words
invariant-loop-words l = AreRead l.place l.next l.words-index l.fn.first l.more l.shapes
