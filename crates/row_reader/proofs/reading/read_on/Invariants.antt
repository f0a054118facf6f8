use Rattle.std.proofs.Common.{◌≡◌, ℕ, List, Some}
use Rattle.row_reader.specs.Pieces.{Adds, AreRowsAfter, IsPast}
use Rattle.row_reader.specs.Reading.{HasRead}
use Rattle.row_reader.specs.Row.{Fields}
use Rattle.row_reader.proofs.reading.read_on.Given as goal

abbrev pub invariant-loop-nth : goal.invariant-loop-nth
invariant-loop-nth g l = record {
  text : List ℕ;
  known : g.R.Read.remaining l.fn.source ≡ Some text;
  seen : List Fields;
  has_read : HasRead g.R.Read.remaining text seen l.reader;
  added : Adds l.fn.rows.items l.rows.items (λ more. (before : List Fields) → IsPast before l.fn.progress
      → AreRowsAfter before seen (record { next = l.nth; given = l.given }) more);
}
