use Rattle.std.proofs.Common.{◌<◌, ◌≤◌, length, arith}
use Rattle.std.proofs.lemmas.List.{take_all}
use Rattle.slice_search.specs.Live.{blank}
use Rattle.slice_search.proofs.SeekerLemmas.{pushed-next, rest-none}
use Rattle.slice_search.proofs.sightings.push_all.Goals as goal

pub loop-i-preserved : goal.loop-i-preserved
loop-i-preserved c rules instant region =
    let seekers = c.args.seekers.now in
    let within : c.loop-i.i < length seekers = omega (arith, c.loop-i-test.true) in
    let over = rest-none seekers c.loop-i.i blank within c.requires in
    pushed-next rules instant region seekers c.loop-i.i blank c.args.found.now.items c.loop-i.found.items
    c.push_found.new.found.items c.sighting.result within (c.loop-i.invariant rules instant region)
    (c.sighting.ensures rules instant region over) c.in_ok-push_found.ensures

pub returns : goal.returns
returns c rules instant region =
    let end : length c.args.seekers.now ≤ c.loop-i.i = omega (arith, c.loop-i-test.false) in
    rw (take_all c.loop-i.i c.args.seekers.now end) at (c.loop-i.invariant rules instant region)
