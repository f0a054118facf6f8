use Rattle.csv.specs.Records.{fields_of}
use Rattle.row_reader.proofs.ReadingLemmas.{ShowsNext-read}
use Rattle.row_reader.proofs.reading.read_next.Goals as goal

pub returns-in-Ok-clause-found : goal.returns-in-Ok-clause-found
returns-in-Ok-clause-found g c = λ bytes seen has.
    let read = c.read_byte_record in
    ShowsNext-read g.R.Read.remaining bytes seen c.args.reader.now read.new.self (fields_of read.new.row) c.in-Ok.found has
    (c.in-Ok.ensures.ready has.untrimmed) (c.in-Ok.ensures.reads has.untrimmed has.ready)
