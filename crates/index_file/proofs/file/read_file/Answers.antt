use Rattle.std.proofs.Common.{subst, sym}
use Rattle.track_types.specs.declared.parts.Parts.{Parts}
use Rattle.rule_store.specs.Table.{IsWholeTable}
use Rattle.snapshots.specs.Parts.{rules_in}
use Rattle.index_format.specs.OutlineBounds.{rules_read, IfOutline}
use Rattle.index_file.proofs.TableLaws.{whole_table-parts}
use Rattle.index_file.proofs.file.read_file.Goals as goal

pub returns-in_ok-parts-in-Outline-clause-found : goal.returns-in_ok-parts-in-Outline-clause-found
returns-in_ok-parts-in-Outline-clause-found c =
    let table = c.in_ok-stored.field-0.table in
    let told = subst (λ stored. IfOutline stored (λ outline. IsWholeTable (rules_read outline) table)) c.in-Outline.is
    c.in_ok-stored.ensures.table in
    let opened = c.in_ok-parts-in-Outline in
    record {
      valid = opened.ensures.valid;
      bounds_are = opened.ensures.bounds;
      table_is = subst (λ (parts : Parts). IsWholeTable (rules_in parts) table) (sym opened.ensures.ok)
          (whole_table-parts c.in-Outline.outline table told);
    }
