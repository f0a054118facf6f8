use Rattle.std.proofs.Common.{rules, ◌≡◌, ◌∙◌, ◌+◌, ◌<◌, ◌∷◌, [], ℕ, List, Bor, Err, arith, drop, get_or, length, map, length-append, refl, sym, ap}
use Rattle.std.proofs.lemmas.List.{drop_all, drop_more}
use Rattle.std.proofs.lemmas.List.Elements.{All-append}
use Rattle.track_types.specs.Region.{IsShapeAsked}
use Rattle.question_shell.specs.RegionWords.{shape_texts, shapes_of}
use Rattle.question_shell.specs.declared.shape_words.ShapeWords.{ShapeWords}
use Rattle.question_shell.specs.declared.shape_words.ShapeWords.TheVariants.{Rect}
use Rattle.question_shell.proofs.LayoutLemmas.{read-all, read-bad, read-begin, read-next}
use Rattle.question_shell.proofs.shape_reading.read_shapes.Goals as goal

pub returns-in_err-read_shape-clause-value : goal.returns-in_err-read_shape-clause-value
returns-in_err-read_shape-clause-value c =
    let first = shape_texts c.args.first.now in
    let more = map shape_texts c.args.more.now in
    let fault = c.in_err-read_shape.field-0.0 in
    let value : shapes_of c.args.place (first ∷ more) ≡ Err fault =
    read-begin c.args.place (first ∷ more) ∙ read-bad c.args.place first more [] fault (sym c.in_err-read_shape.ensures.value) in
    search rules

pub loop-words-init : goal.loop-words-init
loop-words-init c =
    let place = c.args.place in
    let first = shape_texts c.args.first.now in
    let more = map shape_texts c.args.more.now in
    rw (c.new-shapes.ensures, c.count.ensures.value) (record {
      value = read-begin place (first ∷ more)
          ∙ read-next place first more [] c.in_ok-read_shape.field-0 (sym c.in_ok-read_shape.ensures.value);
      read = refl;
      short = omega (arith, c.count.ensures.few, c.requires.short);
      asked = search rules;
    })

-- what the loop's item would be past the end
abbrev blank : ShapeWords
blank = let none : Bor (List ℕ) = record { ref_ptr = (0, 0); now = [] } in Rect none none none none

-- the shapes that are left, where one is
left_more : (more : List ShapeWords) (index : ℕ) → index < length more →
    map shape_texts (drop index more) ≡ shape_texts (get_or more index blank) ∷ map shape_texts (drop (index + 1) more)
left_more more index below = ap (map shape_texts) (drop_more more index blank below)

pub returns-in_err-read_shape-2-clause-value : goal.returns-in_err-read_shape-2-clause-value
returns-in_err-read_shape-2-clause-value c =
    let more = c.args.more.now in
    let index = c.loop-words.words-index in
    let shapes = c.loop-words.shapes in
    let fault = c.in_err-read_shape-2.field-0.0 in
    let words = shape_texts (get_or more index blank) in
    let after = map shape_texts (drop (index + 1) more) in
    let value : shapes_of c.args.place (shape_texts c.args.first.now ∷ map shape_texts more) ≡ Err fault =
    (rw (left_more more index c.loop-words-test.true) at c.loop-words.invariant.value)
    ∙ read-bad c.loop-words.next words after shapes fault (sym c.in_err-read_shape-2.ensures.value) in
    search rules

pub loop-words-preserved : goal.loop-words-preserved
loop-words-preserved c =
    let more = c.args.more.now in
    let index = c.loop-words.words-index in
    let shapes = c.loop-words.shapes in
    let shape = c.in_ok-read_shape-2.field-0 in
    let words = shape_texts (get_or more index blank) in
    let after = map shape_texts (drop (index + 1) more) in
    rw (c.add.ensures, c.count-in-loop-words.ensures.value) (record {
      value = (rw (left_more more index c.loop-words-test.true) at c.loop-words.invariant.value)
          ∙ read-next c.loop-words.next words after shapes shape (sym c.in_ok-read_shape-2.ensures.value);
      read = omega (arith, length-append shapes (shape ∷ []), c.loop-words.invariant.read);
      short = omega (arith, c.count-in-loop-words.ensures.few, c.loop-words.invariant.short);
      asked = All-append IsShapeAsked shapes (shape ∷ []) c.loop-words.invariant.asked (search rules);
    })

pub returns-clause-value : goal.returns-clause-value
returns-clause-value c =
    let more = c.args.more.now in
    let none : drop c.loop-words.words-index more ≡ [] = drop_all c.loop-words.words-index more (omega (arith, c.loop-words-test.false)) in
    let value = c.loop-words.invariant.value in
    sym ((rw none at value) ∙ read-all c.loop-words.next c.loop-words.shapes)
