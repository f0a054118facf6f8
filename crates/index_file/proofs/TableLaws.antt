-- The table of an outline's symbols is that of the parts that the outline opens to.
use Rattle.std.proofs.Common.{ℕ, List}
use Rattle.rule_store.specs.Expansion.{depth_of, expansion_of, values_of}
use Rattle.rule_store.specs.Table.{IsWholeTable}
use Rattle.rule_store.specs.View.{RulesView, rules_with}
use Rattle.rule_store.specs.declared.entry_table.EntryTable.{EntryTable}
use Rattle.snapshots.specs.Parts.{rules_in}
use Rattle.index_format.specs.OutlineBounds.{rules_read}
use Rattle.index_format.specs.declared.outline.Outline.{Outline}
use Rattle.outline_parts.specs.PartsOfOutline.{parts_of_outline}

-- entries do not depend on the symbols that are stored
whole_table-stored : (view : RulesView) (symbols : List ℕ) (table : EntryTable) → IsWholeTable view table
    → IsWholeTable (rules_with view.alphabet view.rules symbols view.height view.period) table
unfolding values_of expansion_of depth_of
whole_table-stored view symbols table is = record {
  known = record {
    height = is.known.height;
    period = is.known.period;
    entries = record {
      each = λ symbol other below. (let it = is.known.entries.each symbol other below in record {
        values = record { duration = it.values.duration; dx = it.values.dx; dy = it.values.dy; hull = it.values.hull };
        depth = it.depth;
        shallow = it.shallow;
      });
    };
  };
  all = is.all;
}

pub whole_table-parts : (outline : Outline) (table : EntryTable) → IsWholeTable (rules_read outline) table
    → IsWholeTable (rules_in (parts_of_outline outline)) table
unfolding parts_of_outline
whole_table-parts outline table is = whole_table-stored (rules_read outline) (rules_in (parts_of_outline outline)).symbols table is
