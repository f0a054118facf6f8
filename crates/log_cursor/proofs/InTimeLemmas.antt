-- What a walk reads up to an instant: as long as it has not come there, it is the walk over the window that ends there.
use Rattle.std.proofs.Common.{◌≡◌, ℕ, ◌+◌, ◌<◌, ◌≤◌, ℤ, ◌≤ℤ◌, ◌<ℤ◌, true, List, [], ◌∷◌, length, None, refl, subst, arith}
use Rattle.std.specs.Int.{int_min}
use Rattle.std.specs.Option.{is_some}
use Rattle.std.proofs.lemmas.Int.{int_min_is, ints}
use Rattle.track_types.specs.declared.stop.Stop.{Stop}
use Rattle.rule_store.specs.Cost.{parts_reads}
use Rattle.rule_store.specs.Flaws.{AreRules, left_of, right_of}
use Rattle.rule_store.specs.declared.entry.Entry.{Entry}
use Rattle.log_cursor.specs.Pending.{PendingView}
use Rattle.log_cursor.specs.Start.{IsWayOf}
use Rattle.log_cursor.specs.Turn.{IsWalkingInTime, has_hull, is_any}
use Rattle.log_cursor.specs.Walk.{WalkView, reads_to, stops_left, walk_of}
use Rattle.log_cursor.specs.declared.start.Start.{Start}
use Rattle.log_cursor.proofs.ExtentLemmas.{nodes_left-count}
use Rattle.log_cursor.proofs.TouchLemmas.{opened_left-count}
use Rattle.log_cursor.proofs.TurnLemmas.{IsTurn, turn-absent, turn-before, turn-one, turn-onward, turn-opened, turn-reads, turn-rules}

-- a walk whose anchor is gone has done nothing yet
pub in_time-first : (pending : PendingView) (at : Start) (from to : ℤ) (first : WalkView) (steps : ℕ) →
    IsWayOf pending.rules at pending.symbols → walk_of pending None at from to ≡ first →
    IsWalkingInTime first steps from to pending at steps
in_time-first pending at from to first steps way is =
    subst (λ (view : WalkView). IsWalkingInTime view steps from to pending at steps) is (record {
      each = λ instant window before. record {
        stops = stops_left pending.rules from (int_min instant to) at pending.symbols;
        walking = record {
          passed = [];
          same = refl;
          window = window;
          way = way;
          all = refl;
          unwanted = refl;
          reads = omega (
            arith,
            opened_left-count pending.rules from (int_min instant to) at pending.symbols,
            nodes_left-count pending.rules from to instant window at pending.symbols,
          );
        };
      };
    })

module _ {first : WalkView} {stops : List Stop} {begun budget : ℕ} {from to : ℤ} {old now : PendingView} {at next : Start}
    {steps reads : ℕ} {entry : Entry} (walking : IsWalkingInTime first begun from to old at steps)
    (turn : IsTurn is_any has_hull first.rules stops budget from to old now at next steps reads entry) where
  -- the same turn, of the walk over the shorter window
  module _ (instant : ℤ) (window : from ≤ℤ int_min instant to) (before : at.instant <ℤ int_min instant to) where
    shorter : IsTurn is_any has_hull first.rules (walking.each instant window before).stops (begun + reads_to first instant) from
        (int_min instant to) old now at next steps reads entry
    shorter = record {
      walking = (walking.each instant window before).walking;
      taken = turn.taken;
      same = turn.same;
      cost = turn.cost;
      leads = turn.leads;
    }

  pub in_time-before : next.instant <ℤ from → IsWalkingInTime first begun from to now next reads
  in_time-before ended = record {
    each = λ instant window before.
        let its = shorter instant window (let on = turn-onward turn in omega (arith, ints, on, before)) in
        record { stops = _; walking = turn-before its ended };
  }

  pub in_time-absent : entry.hull ≡ None → IsWalkingInTime first begun from to now next reads
  in_time-absent none = record {
    each = λ instant window before.
        let its = shorter instant window (let on = turn-onward turn in omega (arith, ints, on, before)) in
        record { stops = _; walking = turn-absent its none };
  }

  pub in_time-opened : from ≤ℤ next.instant → is_some entry.hull ≡ true → AreRules now.rules →
      length now.rules.alphabet ≤ entry.symbol → (later : PendingView) (after : ℕ) → later.rules ≡ now.rules →
      later.symbols ≡ left_of now.rules entry.symbol ∷ right_of now.rules entry.symbol ∷ now.symbols →
      later.unread ≡ now.unread → after ≡ reads + parts_reads → IsWalkingInTime first begun from to later at after
  in_time-opened reached some sound rule later after same symbols unread read = record {
    each = λ instant window before. record {
      stops = _;
      walking = turn-opened (shorter instant window before) before reached some sound rule later after same symbols unread
          read;
    };
  }

  -- a terminal's stop is drawn in time
  pub in_time-stop : at.instant <ℤ to → from ≤ℤ next.instant → entry.symbol < length now.rules.alphabet → (instant : ℤ) →
      next.instant ≤ℤ instant →
      reads + reads_to (walk_of now None next from to) instant ≤ begun + reads_to first instant
  in_time-stop open_end reached terminal instant come =
      let least = int_min_is instant to in
      let one = turn-one turn terminal in
      let window : from ≤ℤ int_min instant to = omega (arith, ints, least, one, open_end, reached, come) in
      let before : at.instant <ℤ int_min instant to = omega (arith, ints, least, one, open_end, come) in
      let its = shorter instant window before in
      rw (turn-rules turn) (omega (
        arith,
        turn-reads {stops = (walking.each instant window before).stops} its,
        opened_left-count first.rules from (int_min instant to) next now.symbols,
        nodes_left-count first.rules from to instant window next now.symbols,
      ))
