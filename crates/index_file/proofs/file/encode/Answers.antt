use Rattle.std.proofs.Common.{length, sym, ap, ◌∙◌}
use Rattle.std.proofs.lemmas.Result.{IfOk-weaker}
use Rattle.index_format.specs.OutlineFile.{outline_bytes}
use Rattle.index_format.proofs.SettledLaws.{settled-in_order}
use Rattle.index_file.proofs.FileLaws.{file_bytes-newest, newest-no_parts}
use Rattle.index_file.proofs.file.encode.Goals as goal

pub outline_of-requires-clause-spelling : goal.outline_of-requires-clause-spelling
outline_of-requires-clause-spelling c = newest-no_parts c.args.parts.frame.version c.requires.newest

pub outline_of-requires-clause-order : goal.outline_of-requires-clause-order
outline_of-requires-clause-order c = settled-in_order (length c.args.parts.alphabet) c.args.parts.rules c.requires.ordered.order

pub returns-clause-ok : goal.returns-clause-ok
returns-clause-ok c = IfOk-weaker c.encode_outline.result _ _
    (λ bytes is. is ∙ ap outline_bytes c.in_ok-outline.ensures.ok ∙ sym (file_bytes-newest c.args.parts c.requires)) c.encode_outline.ensures.ok
