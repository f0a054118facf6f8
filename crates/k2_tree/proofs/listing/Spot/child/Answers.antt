use Rattle.std.proofs.Common.{◌≡◌, ◌∙◌, ◌%◌, ap, arith, sym}
use Rattle.k2_tree.specs.Listing.{quarter_of}
use Rattle.k2_tree.proofs.ListingLemmas.{child-narrow, child-wide}
use Rattle.k2_tree.proofs.listing.Spot.child.Goals as goal

pub returns-then-width-eq1 : goal.returns-then-width-eq1
returns-then-width-eq1 c =
    c.quarter.ensures ∙ sym (child-narrow c.args.width c.args.self c.args.digit c.if-width-eq1.true)

pub returns : goal.returns
returns c =
    let two : c.args.width ≡ 2 = omega (arith, c.requires.some, c.requires.narrow, c.if-width-eq1.false) in
    c.quarter-3.ensures ∙ ap (λ s. quarter_of s (c.args.digit % 4)) c.quarter-2.ensures
    ∙ sym (child-wide c.args.width c.args.self c.args.digit two)
