use Rattle.std.proofs.Common.{ℕ, ◌++◌, List, ap, sym, ◌∙◌}
use Rattle.std.specs.Option.{option_copied}
use Rattle.repair_grammar.specs.Pairs.{places_in_entry}
use Rattle.repair_grammar.proofs.PairLemmas.{places-none, places-some}
use Rattle.repair_grammar.proofs.pairs.copy_seen.Goals as goal

pub returns-in_ok-extend_from_slice : goal.returns-in_ok-extend_from_slice
returns-in_ok-extend_from_slice c = record {
  ok = c.in_ok-extend_from_slice.ensures.items
      ∙ ap (λ (xs : List ℕ). xs ++ c.as_slice.result.now) c.clear.ensures.items ∙ c.as_slice.ensures
      ∙ sym (ap places_in_entry (sym c.get.ensures.value ∙ ap option_copied c.in-Some.is)
      ∙ places-some c.in-Some.seen.now);
}

pub returns-in_default : goal.returns-in_default
returns-in_default c = record {
  ok = c.clear.ensures.items
      ∙ sym (ap places_in_entry (sym c.get.ensures.value ∙ ap option_copied c.in_default.is) ∙ places-none);
}
