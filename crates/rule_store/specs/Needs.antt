-- Which reads a log needs.
use Rattle.std.specs.Prelude.{ℕ, ◌+◌, Bool, true, false, ◌&&◌, nat_le, nat_lt}
use Rattle.step_count.specs.Reads.{Read, ofPeriod, ofRule, ofSymbol}
use Rattle.rule_store.specs.declared.log_view.LogView.{LogView}

-- a place is one from a first to before another
abbrev pub is_among : ℕ × ℕ → ℕ → Bool
is_among places place = nat_le places.0 place && nat_lt place places.1

-- the reads of a log whose symbols stand at these places among all: of any rule, and of these symbols
abbrev pub log_needs : ℕ × ℕ → Read → Bool
log_needs places (ofPeriod period) = false
log_needs places (ofRule rule) = true
log_needs places (ofSymbol place) = is_among places place

-- where the symbols of a log stand: from a first place to before another
abbrev pub places_of : LogView → ℕ × ℕ
places_of view = (view.from, view.from + view.len)
