use Rattle.std.proofs.Common.{◌∙◌, sym, ap, subst}
use Rattle.host_ports.specs.FilesState.{FilesState}
use Rattle.host_ports.specs.Meanings.{files_at}
use Rattle.gract_top.specs.Stopping.{LoadsChart}
use Rattle.gract_top.proofs.EndsLemmas.{AnswersChart-passed, EndsOnce-late}
use Rattle.gract_top.proofs.FaultLemmas.{ask-unsaved}
use Rattle.gract_top.proofs.StoppingLemmas.{CountsFiles-same}
use Rattle.gract_top.proofs.asking.once.Goals as goal
use Rattle.gract_top.proofs.asking.once.Goals.{After-answer_bytes}
use Rattle.gract_top.proofs.asking.once.Given.{Over}

-- what was loaded of the files is what is known of them after the pass
loaded : (g : Over) (c : After-answer_bytes g) →
    LoadsChart c.args.csv.now c.args.settings c.in_ok-bytes.ensures.ok.chart (files_at g.F.Files c.args.files.now)
    (files_at g.F.Files c.pass-bytes.new.self)
loaded g c =
    let At : FilesState → Type 0 = λ state. LoadsChart c.args.csv.now c.args.settings c.in_ok-bytes.ensures.ok.chart
    (files_at g.F.Files c.args.files.now) state in
    subst At (sym c.pass-bytes.ensures.kept) c.in_ok-bytes.ensures.ok.loads

pub returns-clause-ends : goal.returns-clause-ends
returns-clause-ends g c =
    let writes = c.in_ok-bytes.ensures.ok in
    let loads = loaded g (goal.at.returns-clause-ends g c).After-answer_bytes in
    EndsOnce-late _ c.args.csv.now c.args.settings _ _ _ loads.file
    (CountsFiles-same _ _ _ (ask-unsaved c.answer_bytes.result) loads.file.load_faults loads.file.save_faults)
    c.answer_bytes.ensures.late
    (AnswersChart-passed _ c.args.csv.now c.args.settings _ _ _ writes.chart c.in_ok-bytes.bytes.items
    c.pass-bytes.result.items loads.accepted writes.file writes.short
    (c.pass-bytes.ensures.given ∙ ap (λ (given : _). given c.in_ok-bytes.bytes.items) c.in_ok-bytes.ensures.given)
    c.answer_bytes.ensures.ended c.answer_bytes.ensures.decides)
