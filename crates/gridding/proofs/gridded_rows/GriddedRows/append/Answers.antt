use Rattle.std.proofs.Common.{◌≡◌, List, ◌++◌, map, take, ◌∙◌, arith}
use Rattle.std.proofs.lemmas.List.{length-append, take_all}
use Rattle.std.proofs.lemmas.List.Elements.{All-append}
use Rattle.track_types.specs.Near.{IsRawInRange}
use Rattle.track_types.specs.declared.raw_row.RawRow.{RawRow}
use Rattle.gridding.specs.ChartOf.{gridded}
use Rattle.gridding.specs.GriddedRows.{HoldsRows}
use Rattle.gridding.proofs.GriddedLemmas.{HoldsRows-more}
use Rattle.gridding.proofs.gridded_rows.GriddedRows.append.Goals as goal

pub loop-raw-preserved : goal.loop-raw-preserved
loop-raw-preserved c = record {
  by_cell = c.add.ensures.cell ∙ c.loop-raw.invariant.by_cell;
  by_tick = c.add.ensures.tick ∙ c.loop-raw.invariant.by_tick;
  by_count = c.add.ensures.count ∙ c.loop-raw.invariant.by_count;
  held = λ cell tick raws has.
      let rows : List RawRow = c.args.rows.now in
      let i = c.loop-raw.raw-index in
      let before = c.loop-raw.invariant.held cell tick raws has in
      HoldsRows-more cell tick raws rows i _ _ _ c.row.result c.add.new.self c.loop-raw-test.true
      (c.new-grid.ensures.cell ∙ has.by_cell) (c.new-grid.ensures.tick ∙ has.by_tick) c.row.ensures
      (c.in_ok-add.ensures.rows (map (gridded cell tick) (raws ++ take i rows)) before);
}

pub returns : goal.returns
returns c = λ cell tick raws has.
    let rows : List RawRow = c.args.rows.now in
    let all : take c.loop-raw.raw-index rows ≡ rows = take_all c.loop-raw.raw-index rows (omega (arith, c.loop-raw-test.false)) in
    let now : HoldsRows (map (gridded cell tick) (raws ++ rows)) c.loop-raw.self =
    rw all at (c.loop-raw.invariant.held cell tick raws has) in
    record {
      by_cell = c.loop-raw.invariant.by_cell ∙ has.by_cell;
      by_tick = c.loop-raw.invariant.by_tick ∙ has.by_tick;
      held = record { front = now.front; all = now.all; blocks = now.blocks };
      ranges = All-append IsRawInRange raws rows has.ranges c.requires;
      counted = λ fits.
          let long = length-append raws rows in
          let before = has.counted (omega (arith, long, fits)) in
          omega (arith, long, fits, before, c.loop-raw.invariant.by_count, c.saturating_add-self.ensures);
    }
