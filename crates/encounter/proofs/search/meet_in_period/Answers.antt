use Rattle.std.proofs.Common.{List, sym, ap, arith, ◌∙◌}
use Rattle.std.proofs.lemmas.Grind.{elements}
use Rattle.std.specs.Option.{option_map}
use Rattle.track_types.specs.Meeting.{meeting_at}
use Rattle.track_types.specs.declared.stop.Stop.{Stop}
use Rattle.rule_store.specs.Log.{log_of}
use Rattle.log_cursor.specs.Needs.{RulesWithin}
use Rattle.log_cursor.proofs.NeedsLemmas.{search-same}
use Rattle.snapshots.specs.Needs.{block_places}
use Rattle.snapshots.specs.Parts.{stops_in}
use Rattle.encounter.specs.Needs.{period_rule}
use Rattle.encounter.specs.Party.{remaining}
use Rattle.encounter.specs.Turn.{rule_ahead}
use Rattle.encounter.specs.Window.{meeting_among}
use Rattle.encounter.proofs.NeedsLemmas.{rule-present, tree-present}
use Rattle.encounter.proofs.SeekingLemmas.{meeting_among-left, meeting_among-right, stops-absent, stops-present}
use Rattle.encounter.proofs.search.meet_in_period.Given.{Over}
use Rattle.encounter.proofs.search.meet_in_period.Goals as goal
use Rattle.encounter.proofs.search.meet_in_period.Goals.{In_ok-right}

pub returns-in_default-clause-ok : goal.returns-in_default-clause-ok
returns-in_default-clause-ok g c =
    let window = c.args.window.now in
    let rights = stops_in c.args.stores.now c.args.places.right c.args.period in
    sym (ap (option_map meeting_at) (ap (λ stops. meeting_among window.from window.to window.reach stops rights)
    (stops-absent c.args.stores.now c.args.period c.args.places.left
    c.in_default.ensures.value) ∙ meeting_among-left window.from window.to window.reach rights))

pub returns-in_default-find-clause-ok : goal.returns-in_default-find-clause-ok
returns-in_default-find-clause-ok g c =
    let window = c.args.window.now in
    let lefts = stops_in c.args.stores.now c.args.places.left c.args.period in
    sym (ap (option_map meeting_at) (ap (meeting_among window.from window.to window.reach lefts)
    (stops-absent c.args.stores.now c.args.period c.args.places.right
    c.in_default-find.ensures.value) ∙ meeting_among-right window.from window.to window.reach lefts))

-- what is close in the two blocks is what is needed of their period
rules_are : (g : Over) (c : In_ok-right g) → RulesWithin
    (rule_ahead c.args.window.now.from c.args.window.now.to c.args.window.now.reach c.in_ok-left.left c.in_ok-right.right)
    (period_rule c.args.stores.now c.args.places.left c.args.places.right c.args.window.now.from c.args.window.now.to
    c.args.window.now.reach c.args.period)
rules_are g c =
    let mine = c.new-mine.ensures in
    let theirs = c.new-theirs.ensures in
    rule-present c.args.stores.now c.args.period c.args.places.left c.args.places.right c.args.window.now.from
    c.args.window.now.to c.args.window.now.reach c.in-Some.one c.in-Some-find.other c.in_ok-left.left c.in_ok-right.right
    c.in-Some.ensures.value c.in-Some-find.ensures.value (c.in_ok-left.ensures.rules ∙ mine.rules)
    (tree-present c.args.stores.now c.args.period c.in-Some.one _ _ _ _ mine.rules mine.log mine.start
    c.in_ok-left.ensures.rest)
    (tree-present c.args.stores.now c.args.period c.in-Some-find.other _ _ _ _ theirs.rules theirs.log theirs.start
    c.in_ok-right.ensures.rest)

pub first_meeting-requires-clause-may : goal.first_meeting-requires-clause-may
first_meeting-requires-clause-may g c read needed =
    let here = c.in_ok-left.ensures.places ∙ c.new-mine.ensures.places ∙ ap block_places c.in-Some.ensures.value in
    c.requires.log read (search-same _ _ _ _ here
    (rules_are g (goal.at.first_meeting-requires-clause-may g c).In_ok-right) read needed)

pub first_meeting-requires-clause-also : goal.first_meeting-requires-clause-also
first_meeting-requires-clause-also g c read needed =
    let here = c.in_ok-right.ensures.places ∙ c.new-theirs.ensures.places ∙ ap block_places c.in-Some-find.ensures.value in
    c.requires.also read (search-same _ _ _ _ here
    (rules_are g (goal.at.first_meeting-requires-clause-also g c).In_ok-right) read needed)

pub returns-clause-ok : goal.returns-clause-ok
returns-clause-ok g c =
    let window = c.args.window.now in
    let mine = c.new-mine.ensures in
    let theirs = c.new-theirs.ensures in
    let one = stops-present c.args.stores.now c.args.period c.args.places.left
    c.in-Some.one c.new-mine.result.log.rules.now (log_of c.new-mine.result.log)
    c.new-mine.result.start (remaining c.in_ok-left.left) c.in-Some.ensures.value mine.rules mine.log mine.start
    c.in_ok-left.ensures.rest in
    let other = stops-present c.args.stores.now c.args.period c.args.places.right
    c.in-Some-find.other c.new-theirs.result.log.rules.now (log_of c.new-theirs.result.log)
    c.new-theirs.result.start (remaining c.in_ok-right.right) c.in-Some-find.ensures.value theirs.rules theirs.log
    theirs.start c.in_ok-right.ensures.rest in
    c.first_meeting.ensures.value
    ∙ ap (λ (stops : List Stop). option_map meeting_at (meeting_among window.from window.to window.reach stops
    (remaining c.in_ok-right.right).stops)) one
    ∙ ap (λ stops. option_map meeting_at (meeting_among window.from window.to window.reach
    (stops_in c.args.stores.now c.args.places.left c.args.period) stops)) other

pub returns-clause-cost : goal.returns-clause-cost
returns-clause-cost g c = grind (arith, elements)
