use Rattle.std.proofs.Common.{◌≡◌, ◌+◌, ◌<◌, ◌≤◌, get_or, length, ap, arith, set}
use Rattle.std.specs.Prelude.{slice_index}
use Rattle.std.specs.List.{sum_by}
use Rattle.std.specs.Option.{option_map}
use Rattle.std.proofs.lemmas.Int.{ints}
use Rattle.std.proofs.lemmas.List.Elements.{All-set}
use Rattle.std.proofs.lemmas.List.Sums.{sum_by-set}
use Rattle.log_cursor.proofs.StopLemmas.{word}
use Rattle.slice_search.specs.Live.{blank, first_of}
use Rattle.slice_search.specs.Seekers.{IsSeeker, parted_in, reads_in, weight_in}
use Rattle.slice_search.specs.Sightings.{seen_at}
use Rattle.slice_search.specs.declared.seekers.Seeker.{Seeker}
use Rattle.slice_search.proofs.LiveLemmas.{first-set, later-place, live-set}
use Rattle.slice_search.proofs.SeekerLemmas.{turned-next}
use Rattle.slice_search.proofs.seekers.turn_all.Goals as goal

pub bounds-seekers-i : goal.bounds-seekers-i
bounds-seekers-i c = c.loop-k.invariant.live.below c.loop-k.k c.loop-k-test.true

pub bounds-seekers-i-in-loop-k : goal.bounds-seekers-i-in-loop-k
bounds-seekers-i-in-loop-k c = c.loop-k.invariant.live.below c.loop-k.k c.loop-k-test.true

pub turned-requires : goal.turned-requires
turned-requires c =
    c.loop-k.invariant.sound (slice_index c.args.live.now c.loop-k.k) blank
    (c.loop-k.invariant.live.below c.loop-k.k c.loop-k-test.true)

pub loop-k-preserved : goal.loop-k-preserved
loop-k-preserved c =
    let rules = c.args.rules.now in
    let instant = word c.args.instant in
    let now = c.loop-k.seekers in
    let old = c.args.seekers.now in
    let live = c.args.live.now in
    let k = c.loop-k.k in
    let its = c.loop-k.invariant in
    let i = slice_index live k in
    let own : Seeker = get_or now i blank in
    let next : Seeker = record { object = own.object; descent = c.turned.result } in
    let turned = c.turned.ensures in
    let within : i < length now = its.live.below k c.loop-k-test.true in
    let weights = sum_by-set weight_in now i next blank within in
    let most = sum_by weight_in old in
    let lead = parted_in (first_of live old) in
    record {
      long = its.long;
      sound = All-set (IsSeeker rules instant) now i next turned.sound its.sound;
      turned = λ region. turned-next rules instant region old now i next blank within (its.turned region)
          turned.sound (ap (option_map (seen_at own.object)) (turned.hit region)) (turned.opens region);
      live = live-set live c.args.count k now next its.live c.loop-k-test.true;
      parted = λ some. first-set (λ s. parted_in s ≡ 0) live now i next within
          (λ same. turned.turn)
          (λ other. its.parted (later-place live k other));
      weight = omega (arith, its.weight, weights, turned.weight);
      less = first-set (λ s. sum_by weight_in (set now i next) + lead ≤ most + parted_in s) live now i next within
          (λ same. omega (arith, its.less, weights, turned.weight, ap (λ p. parted_in (get_or now p blank)) same))
          (λ other. omega (arith, its.less, weights, turned.weight));
      cost = λ region. omega (
        arith,
        its.cost region,
        sum_by-set (reads_in rules instant region) now i next blank within,
        turned.cost region,
      );
    }

pub returns-clause-turned : goal.returns-clause-turned
returns-clause-turned c region =
    let kept : word c.args.instant ≡ c.args.instant = omega (arith, ints) in
    rw kept at (c.loop-k.invariant.turned region)

pub returns-clause-cost : goal.returns-clause-cost
returns-clause-cost c region =
    let kept : word c.args.instant ≡ c.args.instant = omega (arith, ints) in
    rw kept at (c.loop-k.invariant.cost region)
