use Rattle.std.proofs.Common.{◌≡◌, ◌*◌, length, true, false, refl, sym, ap, ◌∙◌, arith}
use Rattle.std.proofs.lemmas.Grind.{common_steps}
use Rattle.track_types.specs.PartsForm.{symbol_width}
use Rattle.track_types.specs.Spelling.{packs_symbols, spelling_of}
use Rattle.index_format.specs.Spelling.{bytes_for}
use Rattle.index_format.proofs.LengthLaws.{length-log_bytes}
use Rattle.index_format.proofs.log.log_len.Goals as goal

pub returns-then-packs_symbols-clause-exact : goal.returns-then-packs_symbols-clause-exact
returns-then-packs_symbols-clause-exact c =
    let parts = c.args.parts.now in
    let spelling = spelling_of parts.frame.version in
    let packs : packs_symbols spelling ≡ true = grind (arith, c.packs_symbols.ensures, c.spelling.ensures, c.if-packs_symbols.true) in
    let bits : c.width_of.result * length c.as_slice-count.result.now ≡ symbol_width parts * length parts.symbols =
    rw (c.width_of.ensures.exact, c.as_slice-count.ensures) refl in
    let bytes : c.div_ceil.result ≡ bytes_for (c.width_of.result * length c.as_slice-count.result.now) =
    grind (arith, common_steps) in
    bytes ∙ ap bytes_for bits ∙ sym (rw packs at (length-log_bytes spelling (symbol_width parts) parts.symbols))

pub returns-clause-exact : goal.returns-clause-exact
returns-clause-exact c =
    let parts = c.args.parts.now in
    let spelling = spelling_of parts.frame.version in
    let whole : packs_symbols spelling ≡ false = grind (arith, c.packs_symbols.ensures, c.spelling.ensures, c.if-packs_symbols.false) in
    ap (λ symbols. 4 * length symbols) c.as_slice-count.ensures
    ∙ sym (rw whole at (length-log_bytes spelling (symbol_width parts) parts.symbols))
