use Rattle.std.proofs.Common.{◌∙◌, refl}
use Rattle.row_reader.proofs.ReadingLemmas.{has_read-none}
use Rattle.row_reader.proofs.reading.reader_of.Goals as goal

pub returns-in-Ok-clause-ok : goal.returns-in-Ok-clause-ok
returns-in-Ok-clause-ok g c = λ text known.
    let made = c.from_reader-reader.ensures in
    let builder = c.flexible.ensures in
    has_read-none g.R.Read.remaining text c.from_reader-reader.result c.set_byte_headers.new.self
    (rw builder at made.trim ∙ c.new.ensures.trim)
    (rw builder at made.has_headers ∙ c.new.ensures.has_headers)
    (rw builder at made.config ∙ c.new.ensures.config)
    made.state (made.source ∙ rw known refl) c.in-Ok.ensures.same c.in-Ok.ensures.set
