use Rattle.std.proofs.Common.{◌≡◌, ℕ, ◌<◌, ◌≤◌, Bool, get_or, length, ap, sym, ◌∙◌, arith}
use Rattle.std.specs.Prelude.{slice_index}
use Rattle.std.specs.Option.{option_map}
use Rattle.std.proofs.lemmas.Int.{ints}
use Rattle.std.proofs.lemmas.List.Elements.{All-set}
use Rattle.std.proofs.lemmas.List.Sums.{sum_by-set}
use Rattle.step_count.specs.Reads.{ofRule}
use Rattle.log_cursor.proofs.StageLemmas.{next_rule-parted}
use Rattle.log_cursor.proofs.StopLemmas.{word}
use Rattle.slice_search.specs.Live.{blank, first_of}
use Rattle.slice_search.specs.Seekers.{IsSeeker, OpensNext, parted_in, reads_in, turning_in, weight_in}
use Rattle.slice_search.specs.Sightings.{seen_at}
use Rattle.slice_search.specs.declared.seekers.Seeker.{Seeker}
use Rattle.slice_search.proofs.LiveLemmas.{first-set, later-place, live-set}
use Rattle.slice_search.proofs.SeekerLemmas.{turned-next}
use Rattle.slice_search.proofs.seekers.open_all.Goals as goal

pub bounds-seekers-i : goal.bounds-seekers-i
bounds-seekers-i g c = c.loop-k.invariant.live.below c.loop-k.k c.loop-k-test.true

pub bounds-seekers-i-in-loop-k : goal.bounds-seekers-i-in-loop-k
bounds-seekers-i-in-loop-k g c = c.loop-k.invariant.live.below c.loop-k.k c.loop-k-test.true

pub opened-requires-clause-sound : goal.opened-requires-clause-sound
opened-requires-clause-sound g c =
    c.loop-k.invariant.sound (slice_index c.args.live.now c.loop-k.k) blank
    (c.loop-k.invariant.live.below c.loop-k.k c.loop-k-test.true)

pub opened-requires-clause-may : goal.opened-requires-clause-may
opened-requires-clause-may g c =
    c.loop-k.invariant.next (slice_index c.args.live.now c.loop-k.k) blank
    (c.loop-k.invariant.live.below c.loop-k.k c.loop-k-test.true)

pub loop-k-preserved : goal.loop-k-preserved
loop-k-preserved g c =
    let rules = c.args.rules.now in
    let instant = word c.args.instant in
    let now = c.loop-k.seekers in
    let live = c.args.live.now in
    let k = c.loop-k.k in
    let its = c.loop-k.invariant in
    let i = slice_index live k in
    let own : Seeker = get_or now i blank in
    let next : Seeker = record { object = own.object; descent = c.opened.result } in
    let opened = c.opened.ensures in
    let within : i < length now = its.live.below k c.loop-k-test.true in
    let weights = sum_by-set weight_in now i next blank within in
    let before = turning_in (first_of live c.args.seekers.now) in
    let may : ℕ → Bool = λ rule. g.L.Reads.may (ofRule rule) in
    record {
      long = its.long;
      sound = All-set (IsSeeker rules instant) now i next opened.sound its.sound;
      next = All-set (OpensNext may) now i next (next_rule-parted next.descent.stage opened.opened may) its.next;
      turned = λ region. turned-next rules instant region c.args.seekers.now now i next blank within (its.turned region)
          opened.sound (ap (option_map (seen_at own.object)) (opened.hit region)) (opened.opens region);
      live = live-set live c.args.count k now next its.live c.loop-k-test.true;
      turning = first-set (λ s. turning_in s ≡ before) live now i next within
          (λ same. opened.turn ∙ sym (ap (λ p. turning_in (get_or now p blank)) same) ∙ its.turning)
          (λ other. its.turning);
      parted = λ some. first-set (λ s. turning_in s ≤ parted_in s) live now i next within
          (λ same. omega (arith, opened.opened))
          (λ other. its.parted (later-place live k other));
      weight = omega (arith, its.weight, weights, opened.weight);
      cost = λ region. omega (
        arith,
        its.cost region,
        sum_by-set (reads_in rules instant region) now i next blank within,
        opened.cost region,
      );
    }

pub returns-clause-turned : goal.returns-clause-turned
returns-clause-turned g c region =
    let kept : word c.args.instant ≡ c.args.instant = omega (arith, ints) in
    rw kept at (c.loop-k.invariant.turned region)

pub returns-clause-cost : goal.returns-clause-cost
returns-clause-cost g c region =
    let kept : word c.args.instant ≡ c.args.instant = omega (arith, ints) in
    rw kept at (c.loop-k.invariant.cost region)
