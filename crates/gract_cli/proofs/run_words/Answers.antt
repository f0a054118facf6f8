use Rattle.std.proofs.Common.{refl}
use Rattle.gract_cli.proofs.run_words.Goals as goal

pub returns : goal.returns
returns g c =
    let call = c.gract.ensures in
    record {
      reads = c.gract.new.steps;
      words_fault = call.words;
      untouched = λ place is. let same = call.words_untouched place is in rw (same.0, same.1, same.2) refl;
      ends = rw c.new-steps.ensures at call.ends;
      load_untouched = call.counts.load_untouched;
      save_cause = call.counts.save_cause;
      save_untouched = call.counts.save_untouched;
      listen_cause = call.talk.listen_cause;
      listen_untouched = call.talk.listen_untouched;
      say_cause = call.talk.say_cause;
      say_untouched = call.talk.say_untouched;
      within = call.talk.within;
    }
