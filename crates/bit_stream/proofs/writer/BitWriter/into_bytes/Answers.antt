use Rattle.bit_stream.proofs.writer.BitWriter.into_bytes.Goals as goal

pub returns : goal.returns
returns c = record { ok = rw c.self.view_is at c.ended.ensures }
