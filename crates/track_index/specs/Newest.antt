-- The parts of an index in the newest version of the format.
use Rattle.track_types.specs.declared.parts.Parts.{Parts}
use Rattle.parts_order.specs.SettledParts.{settled_parts}
use Rattle.snapshots.specs.Upgrade.{upgrade_of}

-- the parts with the header and the trees of the newest version, and the rules in the order of the format
unfoldable pub newest_of : Parts → Parts
newest_of parts = settled_parts (upgrade_of parts)
