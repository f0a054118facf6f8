use Rattle.std.proofs.Common.{◌≡◌, ℕ, List, ◌++◌, map, take}
use Rattle.track_types.specs.declared.raw_row.RawRow.{RawRow}
use Rattle.gridding.specs.ChartOf.{gridded}
use Rattle.gridding.specs.GriddedRows.{HoldsRows, HasGridded}
use Rattle.gridding.proofs.gridded_rows.GriddedRows.append.Given as goal

-- the rows so far are held, after those before
abbrev pub invariant-loop-raw : goal.invariant-loop-raw
invariant-loop-raw l = record {
  by_cell : l.self.cell ≡ l.fn.self.cell;
  by_tick : l.self.tick ≡ l.fn.self.tick;
  by_count : l.self.count ≡ l.fn.self.count;
  held : (cell tick : ℕ) (raws : List RawRow) → HasGridded cell tick raws l.fn.self →
      HoldsRows (map (gridded cell tick) (raws ++ take l.raw-index l.rows)) l.self;
}
