-- The table of pairs: one entry that is written, and one that comes.
use Rattle.std.proofs.Common.{◌≡◌, ℕ, ◌+◌, ◌<◌, ◌≤◌, cond, if◌then◌else◌, Option, Some, None, [], ◌++◌, length, refl, arith, inl}
use Rattle.std.specs.List.{Contains}
use Rattle.std.proofs.lemmas.Bool.Decides.{nat_tests}
use Rattle.repair_grammar.specs.declared.pairs.Seen.{Seen}
use Rattle.repair_grammar.specs.declared.pairs.Pairs.{Pairs}
use Rattle.repair_grammar.specs.RePair.{is_pair}
use Rattle.repair_grammar.specs.Pairs.{count_in_entry, places_in_entry, count_of, HasCome}
use Rattle.repair_grammar.proofs.PassLemmas.{whole_pair}

-- the count and the places of an entry
pub count-none : count_in_entry None ≡ 0
unfolding count_in_entry
count-none = refl

pub count-some : (seen : Seen) → count_in_entry (Some seen) ≡ seen.count
unfolding count_in_entry
count-some seen = refl

pub places-none : places_in_entry None ≡ []
unfolding places_in_entry
places-none = refl

pub places-some : (seen : Seen) → places_in_entry (Some seen) ≡ seen.places.items
unfolding places_in_entry
places-some seen = refl

-- no place comes with an entry that goes
pub removed-few : (old new : ℕ × ℕ → Option Seen) (pair other : ℕ × ℕ) →
    new other ≡ cond (is_pair other pair.0 pair.1) None (old other) →
    length (places_in_entry (new other)) ≤ length (places_in_entry (old other))
removed-few old new pair other now = grind (arith, nat_tests, places-none)

-- an entry that goes, where its pair counts no more
module _ (old new : ℕ × ℕ → Option Seen) (pair other : ℕ × ℕ)
    (now : new other ≡ cond (is_pair other pair.0 pair.1) None (old other)) (none : count_in_entry (old pair) ≡ 0) where
  pub removed-count : count_in_entry (new other) ≡ count_in_entry (old other)
  removed-count = grind (arith, nat_tests, whole_pair, count-none)

  pub removed-places : 0 < count_in_entry (new other) → places_in_entry (new other) ≡ places_in_entry (old other)
  removed-places some = grind (arith, nat_tests, count-none)

module _ (old new : ℕ × ℕ → Option Seen) (pair other : ℕ × ℕ) (written : Seen)
    (now : new other ≡ cond (is_pair other pair.0 pair.1) (Some written) (old other)) where
  -- an entry whose places stay
  pub places_same : (seen : Seen) → old pair ≡ Some seen → written.places.items ≡ seen.places.items →
      places_in_entry (new other) ≡ places_in_entry (old other)
  unfolding places_in_entry
  places_same seen was same = grind (arith, nat_tests)

  -- an entry that comes
  pub count_new : old pair ≡ None → count_in_entry (new other)
      ≡ count_in_entry (old other) + cond (is_pair other pair.0 pair.1) written.count 0
  unfolding count_in_entry
  count_new none = grind (arith, nat_tests)

  pub places_new : old pair ≡ None → places_in_entry (new other)
      ≡ (if is_pair other pair.0 pair.1 then places_in_entry (old other) ++ written.places.items
      else places_in_entry (old other))
  unfolding places_in_entry
  places_new none = grind (arith, nat_tests)

-- what has come to count after nothing, and after two changes
pub come_none : (pairs : Pairs) → HasCome pairs pairs
come_none pairs = record { kept = λ pair inside. inside; came = λ pair some. inl some }

pub come_then : (first second third : Pairs) → HasCome first second → HasCome second third → HasCome first third
come_then first second third one two = grind (arith, nat_tests)

-- and where counts fall
pub come_fewer : (old new : Pairs) → new.fresh ≡ old.fresh → ((pair : ℕ × ℕ) → count_of new pair ≤ count_of old pair) →
    HasCome old new
come_fewer old new same fewer = grind (arith, nat_tests)

-- and where a pair was noted
pub come_noted : (old new : Pairs) (pair : ℕ × ℕ) (one count : ℕ) → one ≤ 1 → count ≡ count_of old pair + one →
    ((other : ℕ × ℕ) → count_of new other ≡ count_of old other + cond (is_pair other pair.0 pair.1) one 0) →
    ((other : ℕ × ℕ) → Contains old.fresh.items other → Contains new.fresh.items other) →
    (count ≡ 1 → Contains new.fresh.items pair) → HasCome old new
come_noted old new pair one count few is counts keeps own = grind (arith, nat_tests, whole_pair)
