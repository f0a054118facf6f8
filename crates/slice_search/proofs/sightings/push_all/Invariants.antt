use Rattle.std.proofs.Common.{◌≡◌, ℤ, ◌++◌, take}
use Rattle.std.specs.List.{filter_map}
use Rattle.track_types.specs.declared.region.Region.{Region}
use Rattle.rule_store.specs.View.{RulesView}
use Rattle.slice_search.specs.Seekers.{seen_by}
use Rattle.slice_search.proofs.sightings.push_all.Given as goal

abbrev pub invariant-loop-i : goal.invariant-loop-i
invariant-loop-i l =
    (rules : RulesView) (instant : ℤ) (region : Region) → l.found.items
    ≡ l.fn.found.items ++ filter_map (seen_by rules instant region) (take l.i l.seekers)
