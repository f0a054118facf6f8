-- The newest version of an index has the same facts and the same chart.
use Rattle.std.proofs.Common.{◌≡◌, refl, ◌∙◌}
use Rattle.track_types.specs.declared.parts.Parts.{Parts}
use Rattle.snapshots.specs.SoundParts.{IsValid}
use Rattle.snapshots.specs.Upgrade.{upgrade_of}
use Rattle.parts_order.specs.SettledParts.{settled_parts}
use Rattle.parts_order.proofs.SettledPartsLemmas.{length-rules-settled, length-symbols-settled, settled_parts-depth, settled_parts-order, settled_parts-valid}
use Rattle.index_file.specs.File.{IsNewest}
use Rattle.track_index.specs.Facts.{facts_of}
use Rattle.track_index.specs.Newest.{newest_of}

-- none of them is about the version or the trees
facts_of-upgrade : (parts : Parts) → facts_of (upgrade_of parts) ≡ facts_of parts
unfolding facts_of upgrade_of
facts_of-upgrade parts = refl

-- or about the order of rules
facts_of-settled : (parts : Parts) → IsValid parts → facts_of (settled_parts parts) ≡ facts_of parts
unfolding facts_of settled_parts
facts_of-settled parts valid =
    rw (length-rules-settled parts valid, length-symbols-settled parts valid, settled_parts-depth parts valid) refl

pub facts_of-newest : (parts : Parts) → IsValid (upgrade_of parts) → facts_of (newest_of parts) ≡ facts_of parts
unfolding newest_of
facts_of-newest parts valid = facts_of-settled (upgrade_of parts) valid ∙ facts_of-upgrade parts

-- it is in the newest version
pub IsNewest-settled : (parts : Parts) → IsValid (upgrade_of parts) → IsNewest (newest_of parts)
unfolding newest_of settled_parts upgrade_of
IsNewest-settled parts valid = record {
  newest = refl;
  ordered = record { valid = settled_parts-valid (upgrade_of parts) valid; order = settled_parts-order (upgrade_of parts) valid };
}
