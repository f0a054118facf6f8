use Rattle.track_types.proofs.BareDigits.{numeral_of-found}
use Rattle.track_types.proofs.numeral.bare_number.Goals as goal

pub returns : goal.returns
returns c = numeral_of-found c.args.word.now c.few_digits.result c.few_digits.ensures.decimal c.few_digits.ensures.within
