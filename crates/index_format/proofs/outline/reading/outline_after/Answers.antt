use Rattle.std.proofs.Common.{◌≡◌, length, [], refl, sym, ap, ◌∙◌, arith}
use Rattle.std.specs.Prelude.{None}
use Rattle.std.proofs.lemmas.Result.{err_from_is_err_and}
use Rattle.rule_store.specs.Flaws.{code_flaw}
use Rattle.index_format.specs.RuleReading.{IsRuleTable}
use Rattle.index_format.specs.OutlineFile.{frame_rules}
use Rattle.rule_store.specs.Table.{IsWholeTable}
use Rattle.index_format.proofs.AscentLemmas.{values-read}
use Rattle.index_format.proofs.LayerReadLaws.{rules-only}
use Rattle.index_format.proofs.ReadLemmas.{after-blocks, after-end, after-done}
use Rattle.index_format.proofs.outline.reading.outline_after.Goals as goal
use Rattle.index_format.proofs.outline.reading.outline_after.Goals.{In_ok-values, In_ok-rules}

-- the values that were read: so many, without a flaw
values : (c : In_ok-values) → (length c.in_ok-values.values ≡ c.args.header.alphabet)
    × (code_flaw c.args.header.frame.height c.in_ok-values.values ≡ None)
values c =
    values-read c.args.header.frame.height c.args.header.alphabet c.in_ok-values.values c.objects_in.new.reader c.values_in.new.reader
    c.requires.frame.limit c.in_ok-values.ensures

pub values_table-requires-clause-few : goal.values_table-requires-clause-few
values_table-requires-clause-few c =
    let read = values (goal.at.values_table-requires-clause-few c).In_ok-values in
    omega (arith, ap length c.as_slice.ensures, read.0, c.requires.sizes.alphabet)

pub values_table-requires-clause-near : goal.values_table-requires-clause-near
values_table-requires-clause-near c = rw c.as_slice.ensures (values (goal.at.values_table-requires-clause-near c).In_ok-values).1

pub rules_in-requires-clause-many : goal.rules_in-requires-clause-many
rules_in-requires-clause-many c =
    c.in_ok-table.ensures.many ∙ ap length c.as_slice.ensures ∙ (values (goal.at.rules_in-requires-clause-many c).In_ok-values).0

-- the table has the values before rules are read, and then these too
begun : (c : In_ok-rules) → IsRuleTable (frame_rules c.args.header.frame c.in_ok-values.values []) [] c.in_ok-table.table
begun c = record {
  known = c.in_ok-table.ensures.entries (frame_rules c.args.header.frame c.in_ok-values.values []) (sym c.as_slice.ensures) refl refl;
  many = omega (arith, c.in_ok-table.ensures.many, ap length c.as_slice.ensures);
}

whole : (c : In_ok-rules) → IsWholeTable (frame_rules c.args.header.frame c.in_ok-values.values c.in_ok-rules.rules) c.rules_in.new.table
whole c = let table = c.in_ok-rules.ensures.table _ (begun c) in record { known = table.known; all = table.many }

pub blocks_in-requires-clause-all : goal.blocks_in-requires-clause-all
blocks_in-requires-clause-all c =
    let place = goal.at.blocks_in-requires-clause-all c in
    let rules = rules-only (frame_rules c.args.header.frame c.in_ok-values.values []) c.args.header.rules c.in_ok-rules.rules
    c.values_in.new.reader c.rules_in.new.reader (c.in_ok-rules.ensures.exact _ (begun place.In_ok-rules)) in
    omega (arith, (whole place.In_ok-rules).all, (values place.In_ok-values).0, rules.long)

pub returns-in_err-read-clause-exact : goal.returns-in_err-read-clause-exact
returns-in_err-read-clause-exact c =
    let place = (goal.at.returns-in_err-read-clause-exact c).In_ok-rules in
    let p = err_from_is_err_and c.from_residual-in_err-read.result c.from_residual-in_err-read.ensures.1 in
    rw (p.1, p.2) (after-blocks c.args.header c.args.bytes.now (rw c.new-reader.ensures at c.in_ok-numbers.ensures) c.in_ok-values.ensures
    (c.in_ok-rules.ensures.exact _ (begun place)) c.in_err-read.field-0.0 (c.in_err-read.ensures.exact _ (whole place)))

pub returns-in_err-ended-clause-exact : goal.returns-in_err-ended-clause-exact
returns-in_err-ended-clause-exact c =
    let place = (goal.at.returns-in_err-ended-clause-exact c).In_ok-rules in
    let told = c.in_ok-read.ensures.exact _ (whole place) in
    let p = err_from_is_err_and c.from_residual-in_err-ended.result c.from_residual-in_err-ended.ensures.1 in
    rw (p.1, p.2) (after-end c.args.header c.args.bytes.now (rw c.new-reader.ensures at c.in_ok-numbers.ensures) c.in_ok-values.ensures
    (c.in_ok-rules.ensures.exact _ (begun place)) told.0 c.blocks_in.new.reader told.1 c.in_err-ended.field-0.0 c.in_err-ended.ensures)

pub returns-clause-exact : goal.returns-clause-exact
returns-clause-exact c =
    let place = (goal.at.returns-clause-exact c).In_ok-rules in
    let told = c.in_ok-read.ensures.exact _ (whole place) in
    after-done c.args.header c.args.bytes.now (rw c.new-reader.ensures at c.in_ok-numbers.ensures) c.in_ok-values.ensures
    (c.in_ok-rules.ensures.exact _ (begun place)) told.0 c.blocks_in.new.reader told.1 c.in_ok-ended.ensures
    ∙ rw (told.2, told.3) refl

pub returns-clause-bounds : goal.returns-clause-bounds
returns-clause-bounds c = c.in_ok-read.ensures.bounds _ (whole (goal.at.returns-clause-bounds c).In_ok-rules)

pub returns-clause-table : goal.returns-clause-table
returns-clause-table c = whole (goal.at.returns-clause-table c).In_ok-rules
