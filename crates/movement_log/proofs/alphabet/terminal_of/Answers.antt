use Rattle.std.proofs.Common.{arith, inl, inr, sym, Ok, Err}
use Rattle.std.proofs.lemmas.Bool.{cases_lt}
use Rattle.std.proofs.lemmas.List.Sorted.{searched}
use Rattle.list_laws.proofs.IncreasingLemmas.{increasing-at_most}
use Rattle.movement_log.proofs.AlphabetLemmas.{terminal_at, terminal_none}
use Rattle.movement_log.proofs.alphabet.terminal_of.Goals as goal

pub returns-in-Ok : goal.returns-in-Ok
returns-in-Ok c =
    let alphabet = c.args.alphabet.now in
    let found = searched alphabet c.args.value (Ok c.in-Ok.place) c.in-Ok.ensures.position (increasing-at_most alphabet c.requires.ascending) in
    sym (terminal_at alphabet c.args.value c.in-Ok.place c.requires.ascending found.0 found.1)

pub returns-in-Err : goal.returns-in-Err
returns-in-Err c =
    let alphabet = c.args.alphabet.now in
    let place = c.in-Err.field-0 in
    let found = searched alphabet c.args.value (Err place) c.in-Err.ensures.position (increasing-at_most alphabet c.requires.ascending) in
    sym (terminal_none alphabet c.args.value (λ k below same. elim (cases_lt k place) [
      | inl less ↦ let under = found.1 k less in omega arith
      | inr not ↦ let over = found.2 k not below in omega arith
    ]))
