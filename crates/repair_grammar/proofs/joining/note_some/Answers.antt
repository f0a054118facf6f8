use Rattle.std.proofs.Common.{arith, sym, ◌∙◌}
use Rattle.std.proofs.lemmas.List.{append-nil}
use Rattle.repair_grammar.specs.Pairs.{places_of}
use Rattle.repair_grammar.specs.RePair.{is_pair}
use Rattle.repair_grammar.proofs.CountLemmas.{own_pair}
use Rattle.repair_grammar.proofs.PairLemmas.{come_none}
use Rattle.repair_grammar.proofs.JoinLemmas.{one_of, one_of_none, kept_by, noted_as, noted_by}
use Rattle.repair_grammar.proofs.joining.note_some.Goals as goal

pub returns-in_ok-note-clause-counts : goal.returns-in_ok-note-clause-counts
returns-in_ok-note-clause-counts c = λ other.
    rw (c.in-Some.is, one_of c.args.counts c.in-Some.pair other) (c.in_ok-note.ensures.counts other)

pub returns-in_ok-note-clause-places : goal.returns-in_ok-note-clause-places
returns-in_ok-note-clause-places c = λ other.
    rw c.in-Some.is
    (c.in_ok-note.ensures.places other
    ∙ noted_as (is_pair other c.in-Some.pair.0 c.in-Some.pair.1) (places_of c.args.pairs.now other) c.args.place)

pub returns-in_default-clause-places : goal.returns-in_default-clause-places
returns-in_default-clause-places c = λ other. rw c.in_default.is (sym (append-nil (places_of c.args.pairs.now other)))

pub returns-in_ok-note-clause-kept : goal.returns-in_ok-note-clause-kept
returns-in_ok-note-clause-kept c = λ other k inside.
    kept_by (places_of c.args.pairs.now other) (places_of c.note.new.self other)
    (is_pair other c.in-Some.pair.0 c.in-Some.pair.1) c.args.place k (c.in_ok-note.ensures.places other) inside

pub returns-in_ok-note-clause-noted : goal.returns-in_ok-note-clause-noted
returns-in_ok-note-clause-noted c = rw c.in-Some.is
    (noted_by (places_of c.args.pairs.now c.in-Some.pair) (places_of c.note.new.self c.in-Some.pair)
    (is_pair c.in-Some.pair c.in-Some.pair.0 c.in-Some.pair.1) c.args.place
    (c.in_ok-note.ensures.places c.in-Some.pair) (own_pair c.in-Some.pair.0 c.in-Some.pair.1))

pub returns-in_default-clause-counts : goal.returns-in_default-clause-counts
returns-in_default-clause-counts c = λ other. rw c.in_default.is (omega (arith, one_of_none c.args.counts other))

pub returns-in_default-clause-come : goal.returns-in_default-clause-come
returns-in_default-clause-come c = come_none _
