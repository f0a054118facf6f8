use Rattle.std.proofs.Common.{rules, ◌≡◌, ◌∙◌, ◌∷◌, [], Err, arith, map, length-append, refl}
use Rattle.std.proofs.lemmas.List.{map-append}
use Rattle.question_shell.specs.Lines.{words_of}
use Rattle.question_shell.specs.RegionWords.{shape_texts, shapes_cut}
use Rattle.question_shell.proofs.LayoutLemmas.{cut-all, cut-bad, cut-begin, cut-next}
use Rattle.question_shell.proofs.layout.lay_shapes.Goals as goal

pub returns-in_err-first-clause-err : goal.returns-in_err-first-clause-err
returns-in_err-first-clause-err c =
    let words = words_of c.args.line.now in
    let fault = c.in_err-first.field-0.0 in
    let value : shapes_cut c.args.count words ≡ Err fault =
    cut-begin c.args.count words ∙ cut-bad c.args.count 0 [] words fault c.requires.some c.in_err-first.ensures.err in
    search rules

pub loop-init : goal.loop-init
loop-init c =
    let words = words_of c.args.line.now in
    let next = cut-next c.args.count 0 [] words (shape_texts c.in_ok-first.first) (words_of c.in_ok-first.left.now) c.requires.some
    c.in_ok-first.ensures.ok in
    rw c.new-more.ensures (record {
      value = cut-begin c.args.count words ∙ next;
      many = refl;
    })

pub returns-in_err-shape-clause-err : goal.returns-in_err-shape-clause-err
returns-in_err-shape-clause-err c =
    let fault = c.in_err-shape.field-0.0 in
    let before = shape_texts c.in_ok-first.first ∷ map shape_texts c.loop.more.items in
    let value : shapes_cut c.args.count (words_of c.args.line.now) ≡ Err fault =
    c.loop.invariant.value ∙ cut-bad c.args.count c.loop.counter before (words_of c.loop.left.now) fault c.loop-test.true c.in_err-shape.ensures.err in
    search rules

pub push-requires : goal.push-requires
push-requires c = omega (arith, c.loop.invariant.many)

pub loop-preserved : goal.loop-preserved
loop-preserved c =
    let more = c.loop.more.items in
    let shape = c.in_ok-shape.shape in
    let next = cut-next c.args.count c.loop.counter (shape_texts c.in_ok-first.first ∷ map shape_texts more) (words_of c.loop.left.now)
    (shape_texts shape) (words_of c.in_ok-shape.after.now) c.loop-test.true c.in_ok-shape.ensures.ok in
    rw c.push.ensures.items (record {
      value = rw (map-append shape_texts more (shape ∷ [])) (c.loop.invariant.value ∙ next);
      many = omega (arith, length-append more (shape ∷ []), c.loop.invariant.many);
    })

pub returns-in_default-clause-err : goal.returns-in_default-clause-err
returns-in_default-clause-err c =
    let before = shape_texts c.in_ok-first.first ∷ map shape_texts c.loop.more.items in
    rw c.in_default.ensures.some at (c.loop.invariant.value
    ∙ cut-all c.args.count c.loop.counter before (words_of c.loop.left.now) c.loop-test.false)

pub returns-clause-ok : goal.returns-clause-ok
returns-clause-ok c =
    let before = shape_texts c.in_ok-first.first ∷ map shape_texts c.loop.more.items in
    rw c.in-None.ensures.none at (c.loop.invariant.value
    ∙ cut-all c.args.count c.loop.counter before (words_of c.loop.left.now) c.loop-test.false)
