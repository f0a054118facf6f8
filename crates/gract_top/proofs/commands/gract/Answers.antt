use Rattle.std.proofs.Common.{◌≡◌, ◌∙◌, refl, sym}
use Rattle.gract_top.specs.Request.{request_of}
use Rattle.gract_top.specs.declared.request.Request.TheVariants as request
use Rattle.gract_top.proofs.CompletenessLemmas.{ask-good, build-good, once-good, sample-good}
use Rattle.gract_top.proofs.BeginningLemmas.{upgrade-good}
use Rattle.gract_top.proofs.ExtendingLemmas.{extend-good}
use Rattle.gract_top.proofs.FaultLemmas.{ask-untroubled, save-untroubled}
use Rattle.gract_top.proofs.MergingLemmas.{merge-good}
use Rattle.gract_top.proofs.OutcomeLemmas.{CountsTalk-unheard}
use Rattle.gract_top.proofs.SamplingLemmas.{EndsSample-unheard}
use Rattle.gract_top.proofs.TailAskingLemmas.{ask_tail-good}
use Rattle.gract_top.proofs.commands.gract.Goals as goal

pub returns-in-Once-clause-complete : goal.returns-in-Once-clause-complete
returns-in-Once-clause-complete g c = λ ready calm.
    let asked : request_of c.args.words.now ≡ request.Once c.in-Once.csv c.in-Once.settings =
    sym c.read_request.ensures.value ∙ c.in-Once.is in
    let needs = rw asked at ready in
    rw c.into.ensures (once-good _ c.in-Once.csv.now c.in-Once.settings _ _ _ c.once.ensures.ends needs.0 needs.1 needs.2
    (ask-untroubled g.F.Files g.S.Source g.K.Sink _ _ _ _ _ _ calm c.once.result c.once.ensures.talk) calm.load)

pub returns-in-Build-clause-complete : goal.returns-in-Build-clause-complete
returns-in-Build-clause-complete g c = λ ready calm.
    let asked : request_of c.args.words.now ≡ request.Build c.in-Build.csv c.in-Build.index c.in-Build.settings =
    sym c.read_request.ensures.value ∙ c.in-Build.is in
    rw c.into-in-Build.ensures (build-good _ c.in-Build.csv.now c.in-Build.index.now c.in-Build.settings _ _ c.build.ensures.ends
    (rw asked at ready)
    (save-untroubled g.F.Files g.S.Source g.K.Sink _ _ _ _ _ _ calm c.build.result c.build.ensures.ends.counts) calm.load)

pub returns-in-Ask-clause-complete : goal.returns-in-Ask-clause-complete
returns-in-Ask-clause-complete g c = λ ready calm.
    let asked : request_of c.args.words.now ≡ request.Ask c.in-Ask.index =
    sym c.read_request.ensures.value ∙ c.in-Ask.is in
    let needs = rw asked at ready in
    rw c.into-in-Ask.ensures (ask-good _ c.in-Ask.index.now _ _ _ c.ask.ensures.ends needs.0 needs.1
    (ask-untroubled g.F.Files g.S.Source g.K.Sink _ _ _ _ _ _ calm c.ask.result c.ask.ensures.talk) calm.load)

pub returns-in-AskTail-clause-complete : goal.returns-in-AskTail-clause-complete
returns-in-AskTail-clause-complete g c = λ ready calm.
    let asked : request_of c.args.words.now ≡ request.AskTail c.in-AskTail.index c.in-AskTail.tail =
    sym c.read_request.ensures.value ∙ c.in-AskTail.is in
    let needs = rw asked at ready in
    rw c.into-in-AskTail.ensures (ask_tail-good _ c.in-AskTail.index.now c.in-AskTail.tail.now _ _ _ _ _ needs.0 needs.1.0 needs.1.1
    (ask-untroubled g.F.Files g.S.Source g.K.Sink _ _ _ _ _ _ calm c.ask_tail.result c.ask_tail.ensures.talk) calm.load
    c.ask_tail.ensures.ends)

pub returns-in-Sample-clause-complete : goal.returns-in-Sample-clause-complete
returns-in-Sample-clause-complete g c = λ ready calm.
    let asked : request_of c.args.words.now ≡ request.Sample c.in-Sample.settings =
    sym c.read_request.ensures.value ∙ c.in-Sample.is in
    let needs = rw asked at ready in
    rw c.into-in-Sample.ensures (sample-good _ c.in-Sample.settings _ _ _ _ needs.1 _ _ c.sample.ensures.ends needs.0
    (λ is. calm.say (c.sample.ensures.say_faults.cause is)))

pub returns-in-Sample-clause-talk : goal.returns-in-Sample-clause-talk
returns-in-Sample-clause-talk g c = rw c.into-in-Sample.ensures
    (CountsTalk-unheard g.S.Source g.K.Sink _ _ _ _ (EndsSample-unheard _ _ _ _ _ _ _ _ c.sample.ensures.ends)
    c.sample.ensures.say_faults)

pub returns-in-Upgrade-clause-complete : goal.returns-in-Upgrade-clause-complete
returns-in-Upgrade-clause-complete g c = λ ready calm.
    let asked : request_of c.args.words.now ≡ request.Upgrade c.in-Upgrade.old c.in-Upgrade.new =
    sym c.read_request.ensures.value ∙ c.in-Upgrade.is in
    let needs = rw asked at ready in
    let ends = c.upgrade.ensures.ends in
    rw c.into-in-Upgrade.ensures (upgrade-good c.in-Upgrade.old.now c.in-Upgrade.new.now _ _ _ _ needs _ ends
    (λ is. calm.save (ends.counts.save_cause is)) calm.load)

pub returns-in-Merge-clause-complete : goal.returns-in-Merge-clause-complete
returns-in-Merge-clause-complete g c = λ ready calm.
    let asked : request_of c.args.words.now ≡ request.Merge c.in-Merge.left c.in-Merge.right c.in-Merge.out =
    sym c.read_request.ensures.value ∙ c.in-Merge.is in
    let needs = rw asked at ready in
    let ends = c.merge.ensures.ends in
    rw c.into-in-Merge.ensures (merge-good _ c.in-Merge.left.now c.in-Merge.right.now c.in-Merge.out.now _ _ ends
    needs.0 needs.1 needs.2 (λ is. calm.save (ends.counts.save_cause is)) calm.load)

pub returns-in-Extend-clause-complete : goal.returns-in-Extend-clause-complete
returns-in-Extend-clause-complete g c = λ ready calm.
    let asked : request_of c.args.words.now ≡ request.Extend c.in-Extend.index c.in-Extend.tail c.in-Extend.out =
    sym c.read_request.ensures.value ∙ c.in-Extend.is in
    let needs = rw asked at ready in
    let ends = c.extend.ensures.ends in
    rw c.into-in-Extend.ensures (extend-good _ c.in-Extend.index.now c.in-Extend.tail.now c.in-Extend.out.now _ _ needs.0 needs.1 needs.2
    ends (save-untroubled g.F.Files g.S.Source g.K.Sink _ _ _ _ _ _ calm c.extend.result ends.counts) calm.load)

pub returns-in-Refused-clause-complete : goal.returns-in-Refused-clause-complete
returns-in-Refused-clause-complete g c = λ ready calm.
    let asked : request_of c.args.words.now ≡ request.Refused c.in-Refused.place =
    sym c.read_request.ensures.value ∙ c.in-Refused.is in
    absurd (rw asked at ready)

pub returns-in-Ask-clause-ends : goal.returns-in-Ask-clause-ends
returns-in-Ask-clause-ends g c =
    let asked : request_of c.args.words.now ≡ request.Ask c.in-Ask.index =
    sym c.read_request.ensures.value ∙ c.in-Ask.is in
    rw (asked, c.into-in-Ask.ensures) c.ask.ensures.ends

pub returns-in-AskTail-clause-ends : goal.returns-in-AskTail-clause-ends
returns-in-AskTail-clause-ends g c =
    let asked : request_of c.args.words.now ≡ request.AskTail c.in-AskTail.index c.in-AskTail.tail =
    sym c.read_request.ensures.value ∙ c.in-AskTail.is in
    rw (asked, c.into-in-AskTail.ensures) (c.ask_tail.ensures.ends, c.ask_tail.ensures.given)

pub returns-in-Merge-clause-ends : goal.returns-in-Merge-clause-ends
returns-in-Merge-clause-ends g c =
    let asked : request_of c.args.words.now ≡ request.Merge c.in-Merge.left c.in-Merge.right c.in-Merge.out =
    sym c.read_request.ensures.value ∙ c.in-Merge.is in
    rw (asked, c.into-in-Merge.ensures) (c.merge.ensures.ends, ((refl, refl), c.merge.ensures.given))
