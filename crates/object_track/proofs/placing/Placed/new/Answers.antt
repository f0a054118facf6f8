use Rattle.std.proofs.Common.{◌≡◌, ◌+◌, ◌*◌, ◌≤◌, List, length, ℕ, ℤ, ◌+ℤ◌, w64, to_z, of_z, arith, ap, sym, subst, ◌∙◌, rules}
use Rattle.std.proofs.lemmas.Int.{ints}
use Rattle.track_types.specs.declared.cell.Cell.{Cell}
use Rattle.track_types.specs.declared.frame.Frame.{Frame}
use Rattle.track_types.specs.declared.parts.Parts.{Parts}
use Rattle.track_types.proofs.TimelineLemmas.{period-ends}
use Rattle.rule_store.specs.Log.{log_of}
use Rattle.rule_store.specs.View.{RulesView}
use Rattle.log_cursor.specs.Start.{start_at, IsPlaced}
use Rattle.snapshots.specs.Parts.{anchored_at, log_in, rules_in}
use Rattle.snapshots.proofs.LogsLemmas.{log_of-is}
use Rattle.object_track.proofs.BlockLemmas.{log-within, IsPlaced-block}
use Rattle.object_track.proofs.placing.Placed.new.Goals as goal

pub block-log-requires : goal.block-log-requires
block-log-requires c =
    let parts : Parts = c.args.stores.now in
    subst (λ (rules : RulesView). c.args.block.now.from + c.args.block.now.len ≤ length rules.symbols)
    (sym c.rules.ensures.value)
    (log-within parts c.frame-frame.ensures.valid c.args.period c.requires.period c.args.block.now c.requires.block)

-- the anchor's instant, as it is added up
abbrev instant-of : goal.After-block-log → ℤ
instant-of c = to_z w64 (of_z w64 (to_z w64 (of_z w64 c.frame-frame.result.now.first)
    +ℤ to_z w64 (c.from.result * c.from-2.result + c.from-3.result)))

instant-is : (c : goal.After-block-log)
    → instant-of c ≡ anchored_at c.args.stores.now.frame c.args.period c.args.block.now
instant-is c =
    let frame : Frame = c.args.stores.now.frame in
    let header = c.frame-frame.ensures.shaped.header in
    let first = ap (λ (f : Frame). f.first) c.frame-frame.ensures.value in
    let product : c.from.result * c.from-2.result ≡ c.args.period * frame.period =
    rw (c.from.ensures, c.from-2.ensures) (ap (λ (f : Frame). c.args.period * f.period) c.frame-frame.ensures.value) in
    let ends = period-ends frame.span frame.period header.periods.some c.args.period c.requires.period in
    let offset = c.requires.block.offset in
    omega (
      arith,
      ints,
      first,
      product,
      ends,
      offset,
      c.from-3.ensures,
      header.begins,
      header.ends,
      header.short,
    )

pub returns-clause-start : goal.returns-clause-start
returns-clause-start c = ap (λ z. start_at z c.args.block.now.cell) (instant-is c)

pub returns-clause-placed : goal.returns-clause-placed
returns-clause-placed c =
    let parts : Parts = c.args.stores.now in
    let rules : c.block-log.result.rules.now ≡ rules_in parts = c.block-log.ensures.rules ∙ c.rules.ensures.value in
    let log : log_of c.block-log.result ≡ log_in parts c.args.block.now =
    log_of-is c.block-log.result (rules_in parts) c.args.block.now rules c.block-log.ensures.from
    c.block-log.ensures.len in
    let cell : Cell = c.args.block.now.cell in
    subst (λ (symbols : List ℕ). IsPlaced c.block-log.result.rules.now (start_at (instant-of c) cell) symbols) (sym log)
    (subst (λ (r : RulesView). IsPlaced r (start_at (instant-of c) cell) (log_in parts c.args.block.now)) (sym rules)
    (subst (λ z. IsPlaced (rules_in parts) (start_at z cell) (log_in parts c.args.block.now)) (sym (instant-is c))
    (IsPlaced-block parts c.frame-frame.ensures.valid c.args.period c.requires.period c.args.block.now c.requires.block)))

pub overflow_add-start : goal.overflow_add-start
overflow_add-start c = search rules
