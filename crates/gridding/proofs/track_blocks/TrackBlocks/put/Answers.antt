use Rattle.std.proofs.lemmas.Grind.{elements}
use Rattle.std.proofs.Common.{◌≡◌, ◌∙◌, Some, ap, arith, length, refl, rules}
use Rattle.std.specs.Prelude.{slice_get}
use Rattle.std.proofs.lemmas.Bool.Decides.{nat_tests}
use Rattle.std.proofs.lemmas.Option.{slice_get_read}
use Rattle.gridding.proofs.BlockLemmas.{blocks_pushed}
use Rattle.gridding.proofs.track_blocks.TrackBlocks.put.Goals as goal

pub returns-in-Some-clause-put : goal.returns-in-Some-clause-put
returns-in-Some-clause-put c = λ _ rows blocks.
    let tracks = c.args.self.now in
    let owner = c.in-Some-Some.owner in
    let n = c.in-Some-Some.field-0-1.now in
    let own : owner ≡ c.args.object = grind (arith, nat_tests, c.if-owner-object.true) in
    let stands : slice_get tracks.objects.items c.args.guess ≡ Some owner =
    slice_get_read tracks.objects.items (length tracks.objects.items) c.args.guess owner refl (search rules) (search rules) in
    let length_is : slice_get tracks.lengths.items c.args.guess ≡ Some n =
    slice_get_read tracks.lengths.items (length tracks.lengths.items) c.args.guess n refl (search rules) (search rules) in
    blocks_pushed rows tracks _ c.args.object c.args.place blocks refl c.args.guess n c.in-Some.places.now _
    (stands ∙ ap Some own) (grind (arith, nat_tests, c.if-length-lt-ROWS.true)) (search rules) length_is c.write.ensures
    refl refl refl refl

pub returns-in_default-2-clause-full : goal.returns-in_default-2-clause-full
returns-in_default-2-clause-full c = grind (arith, elements)
