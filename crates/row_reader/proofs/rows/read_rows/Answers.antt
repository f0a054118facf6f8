use Rattle.std.proofs.Common.{rules, ◌≡◌, [], length, refl, arith, vec_len}
use Rattle.std.proofs.lemmas.List.Elements.{All-nil}
use Rattle.std.proofs.lemmas.Result.{err_from_is_err_and}
use Rattle.track_types.specs.Near.{IsRawInRange}
use Rattle.row_reader.specs.Pieces.{AreRowsOf}
use Rattle.row_reader.proofs.ProgressLemmas.{AreRowsOf-after}
use Rattle.row_reader.proofs.rows.read_rows.Goals as goal
use Rattle.row_reader.proofs.rows.read_rows.Goals.{In_ok-read_on}

all_rows : (c : In_ok-read_on) → AreRowsOf c.args.bytes.now c.read_on.new.rows.items
all_rows c =
    let read = c.in_ok-read_on.ensures.ok c.args.bytes.now refl in
    rw (read.added, c.new-rows.ensures.items)
    (AreRowsOf-after c.args.bytes.now c.args.bytes.now [] [] read.more c.in_ok-read_on.field-0 refl refl
    (All-nil IsRawInRange) (read.promise [] c.start.ensures))

pub returns-in_err-read_on-clause-fault : goal.returns-in_err-read_on-clause-fault
returns-in_err-read_on-clause-fault c =
    let answered = err_from_is_err_and c.from_residual.result c.from_residual.ensures.1 in
    rw (answered.1, answered.2)
    (c.in_err-read_on.ensures.fault c.args.bytes.now refl c.args.bytes.now [] c.start.ensures refl)

pub returns-clause-ok : goal.returns-clause-ok
returns-clause-ok c = ((all_rows c).accepted, (all_rows c).rows)

pub returns-clause-few : goal.returns-clause-few
returns-clause-few c =
    let size : vec_len c.read_on.new.rows ≡ length c.read_on.new.rows.items = search rules in
    omega (arith, size, (all_rows c).few)

pub returns-clause-ranges : goal.returns-clause-ranges
returns-clause-ranges c = (all_rows c).ranges
