use Rattle.std.proofs.Common.{◌≡◌, ◌+◌, ◌<◌, ◌≤◌, All, get_or, length, ap, subst, ◌∙◌, arith, rules}
use Rattle.std.specs.Prelude.{slice_index}
use Rattle.std.specs.Option.{option_map}
use Rattle.std.proofs.lemmas.Int.{ints}
use Rattle.std.proofs.lemmas.List.{length-set}
use Rattle.std.proofs.lemmas.List.Sums.{sum_by-set}
use Rattle.log_cursor.proofs.StopLemmas.{word}
use Rattle.slice_search.specs.Live.{blank}
use Rattle.slice_search.specs.Seekers.{IsSeeker, reads_in, weight_in}
use Rattle.slice_search.specs.Sightings.{seen_at}
use Rattle.slice_search.specs.declared.seekers.Seeker.{Seeker}
use Rattle.slice_search.proofs.LiveLemmas.{sifted-first, sifted-last, sifted-lead, sifted-next}
use Rattle.slice_search.proofs.SeekerLemmas.{turned-first, turned-next}
use Rattle.slice_search.proofs.seekers.judge_all.Goals as goal

pub loop-k-init : goal.loop-k-init
loop-k-init g c =
    let kept : c.args.instant ≡ word c.args.instant = omega (arith, ints) in
    let sound = subst (λ instant. All (IsSeeker c.args.rules.now instant) c.args.seekers.now) kept c.requires.sound in
    record {
      long = search rules;
      turned = turned-first c.args.rules.now (word c.args.instant) c.args.test.now.region c.args.seekers.now sound;
      few = omega arith;
      live = sifted-first c.args.live.now c.args.count c.args.seekers.now c.requires.live;
      first = λ some. absurd (omega (arith, some));
      weight = omega arith;
      cost = omega arith;
    }

pub bounds-seekers-i : goal.bounds-seekers-i
bounds-seekers-i g c = c.loop-k.invariant.live.below c.loop-k.k c.loop-k-test.true

pub judged-descent-requires : goal.judged-descent-requires
judged-descent-requires g c =
    c.loop-k.invariant.turned.sound (slice_index c.loop-k.live c.loop-k.k) blank
    (c.loop-k.invariant.live.below c.loop-k.k c.loop-k-test.true)

pub bounds-seekers-i-in-loop-k : goal.bounds-seekers-i-in-loop-k
bounds-seekers-i-in-loop-k g c = c.loop-k.invariant.live.below c.loop-k.k c.loop-k-test.true

pub loop-k-preserved : goal.loop-k-preserved
loop-k-preserved g c =
    let rules = c.args.rules.now in
    let instant = word c.args.instant in
    let region = c.args.test.now.region in
    let now = c.loop-k.seekers in
    let live = c.loop-k.live in
    let k = c.loop-k.k in
    let left = c.loop-k.left in
    let its = c.loop-k.invariant in
    let i = slice_index live k in
    let own : Seeker = get_or now i blank in
    let next : Seeker = record { object = own.object; descent = c.judged-descent.result } in
    let judged = c.judged-descent.ensures in
    let rest = c.rest_of-left.ensures in
    let within : i < length now = its.live.below k c.loop-k-test.true in
    let long : c.args.count ≤ length live = omega (arith, its.long, c.requires.few) in
    let weights = sum_by-set weight_in now i next blank within in
    let reads = sum_by-set (reads_in rules instant region) now i next blank within in
    record {
      long = length-set live left i ∙ its.long;
      turned = turned-next rules instant region c.args.seekers.now now i next blank within its.turned judged.sound
          (ap (option_map (seen_at own.object)) judged.hit) judged.opens;
      few = omega (arith, its.few, rest.few);
      live = sifted-next live left k c.args.count now next its.few c.loop-k-test.true long (left + c.rest_of-left.result)
          its.live (ap (λ r. left + r) rest.value);
      first = λ some. sifted-lead live left k c.args.count now next its.few c.loop-k-test.true long
          (left + c.rest_of-left.result) within (ap (λ r. left + r) rest.value) (omega (arith, rest.value, rest.few))
          judged.turn its.first;
      weight = omega (arith, its.weight, weights, judged.weight);
      cost = omega (arith, its.cost, reads, judged.cost);
    }

pub returns-clause-live : goal.returns-clause-live
returns-clause-live g c =
    sifted-last c.loop-k.live c.loop-k.left c.loop-k.k c.args.count c.loop-k.seekers c.loop-k.invariant.live
    (omega (arith, c.loop-k.invariant.few, c.loop-k-test)) (omega (arith, c.loop-k-test.false))
