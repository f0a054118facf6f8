use Rattle.std.proofs.Common.{ap, ◌∙◌}
use Rattle.index_file.specs.File.{file_bytes}
use Rattle.gract_top.proofs.UpgradingLemmas.{IsUpgrade-file}
use Rattle.gract_top.proofs.upgrading.upgraded_bytes.Goals as goal

pub returns-clause-ok : goal.returns-clause-ok
returns-clause-ok g c =
    let held = c.in_ok-parts.ensures.ok in
    IsUpgrade-file c.args.bytes.items _ held.0 held.1 (c.in_ok-encode.ensures.ok ∙ ap file_bytes held.2)
