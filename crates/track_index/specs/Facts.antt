-- The facts of an index.
use Rattle.std.specs.Prelude.{length}
use Rattle.track_types.specs.declared.facts.Facts.{Facts}
use Rattle.track_types.specs.declared.parts.Parts.{Parts}
use Rattle.rule_store.specs.Expansion.{depth_in}
use Rattle.snapshots.specs.Parts.{last_in, rules_in}

-- eleven numbers of the parts
unfoldable pub facts_of : Parts → Facts
facts_of parts = record {
  objects = length parts.objects;
  first = parts.frame.first;
  last = last_in parts.frame;
  period = parts.frame.period;
  cell = parts.frame.cell;
  tick = parts.frame.tick;
  height = parts.frame.height;
  alphabet = length parts.alphabet;
  rules = length parts.rules;
  entries = length parts.symbols;
  depth = depth_in (rules_in parts);
}
