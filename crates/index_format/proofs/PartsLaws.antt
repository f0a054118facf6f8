-- What follows the header in a file that holds parts: what is read is spelled so and shaped, and what is shaped is read again.
use Rattle.std.proofs.Common.{◌≡◌, ℕ, ◌+◌, true, eqb, List, [], ◌++◌, length, Ok, refl, sym, ap, ◌∙◌, append_assoc, append-nil, arith}
use Rattle.std.specs.Prelude.{IfOk}
use Rattle.std.specs.List.{flat_map}
use Rattle.std.specs.Int.{w32, w64}
use Rattle.std.proofs.lemmas.Bool.{eqb-true}
use Rattle.std.proofs.lemmas.List.{nil_from_length}
use Rattle.track_types.specs.Frame.{periods_of}
use Rattle.track_types.specs.PartsForm.{width_for, symbol_width}
use Rattle.track_types.specs.Spelling.{holds_parts, spelling_of}
use Rattle.track_types.specs.declared.flaw.Section.TheVariants.{Objects, Alphabet}
use Rattle.track_types.specs.declared.parts.Parts.{Parts}
use Rattle.index_format.specs.Spelling.{short_bytes, long_bytes, rule_bytes, period_bytes, log_bytes, header_of, parts_bytes}
use Rattle.index_format.specs.Fields.{items_at, rising_at, rule_at, log_at}
use Rattle.index_format.specs.Reading.{period_sections_at, parts_after}
use Rattle.index_format.specs.Stored.{AreOldParts}
use Rattle.index_format.specs.declared.header.Header.{Header}
use Rattle.index_format.proofs.BitLemmas.{IsBytes}
use Rattle.index_format.proofs.Laws.{Takes-then, then_ok, test_ok, wide32, wide64, items_at-takes, items_at-again}
use Rattle.index_format.proofs.ListLaws.{rising_listed, rules_listed}
use Rattle.index_format.proofs.LogLaws.{log_at-takes, log_at-again}
use Rattle.index_format.proofs.WidthLemmas.{width_for-narrow}
use Rattle.index_format.proofs.PeriodLaws.{periods_listed}
use Rattle.index_format.specs.Headers.{IsHeader}

-- parts that were read are shaped, and header and bytes are theirs
pub parts_after-takes : (h : Header) → IsHeader h → holds_parts (spelling_of h.frame.version) ≡ true → (bytes : List ℕ) → IsBytes bytes
    → IfOk (parts_after h bytes) (λ parts. AreOldParts parts × (header_of parts ≡ h) × (bytes ≡ parts_bytes parts))
unfolding parts_after parts_bytes
parts_after-takes h is holds bytes fits =
    then_ok _ _ (items_at (rising_at w32 Objects) h.objects [] bytes) (items_at-takes (rising_listed wide32 Objects) h.objects bytes fits) (λ objects t1.
    then_ok _ _ (items_at (rising_at w64 Alphabet) h.alphabet [] objects.1) (items_at-takes (rising_listed wide64 Alphabet) h.alphabet objects.1 t1.0.fits) (λ alphabet t2.
    then_ok _ _ (items_at rule_at h.rules [] alphabet.1) (items_at-takes rules_listed h.rules alphabet.1 t2.0.fits) (λ rules t3.
    then_ok _ _ (items_at (period_sections_at h.objects) (periods_of h.frame) [] rules.1) (items_at-takes (periods_listed h.objects) (periods_of h.frame) rules.1 t3.0.fits) (λ periods t4.
    let width = width_for (h.alphabet + h.rules) in
    let spelling = spelling_of h.frame.version in
    then_ok _ _ (log_at spelling width h.symbols periods.1)
    (log_at-takes spelling width h.symbols periods.1 (omega (arith, width_for-narrow (h.alphabet + h.rules))) t4.0.fits) (λ symbols t5.
    let parts : Parts = record {
      frame = h.frame;
      objects = objects.0;
      alphabet = alphabet.0;
      rules = rules.0;
      periods = periods.0;
      symbols = symbols.0;
    } in
    test_ok _ _ _ (eqb (length symbols.1) 0) (λ over.
    let are = is.sizes in
    let head : header_of parts ≡ h = rw (t1.2, t2.2, t3.2, t5.1.long) refl in
    let same : symbol_width parts ≡ width = rw (t2.2, t3.2) refl in
    let taken = Takes-then t1.0 (Takes-then t2.0 (Takes-then t3.0 (Takes-then t4.0 t5.0))) in
    let whole = taken.parts ∙ ap (λ tail. (flat_map short_bytes objects.0 ++ (flat_map long_bytes alphabet.0
    ++ (flat_map rule_bytes rules.0 ++ (flat_map period_bytes periods.0 ++ log_bytes spelling width symbols.0)))) ++ tail)
    (nil_from_length symbols.1 (eqb-true _ _ over)) in (
      record {
        shaped = record {
          header = is.frame;
          some = rw t1.2 are.objects.0;
          few = rw t1.2 are.objects.1;
          blocks = rw t1.2 are.blocks;
          objects = t1.1.0;
          short_objects = t1.1.1;
          alphabet = t2.1.0;
          long_alphabet = t2.1.1;
          few_values = rw t2.2 are.alphabet;
          few_rules = rw t3.2 are.rules;
          short_rules = t3.1;
          periods = t4.2;
          each = rw t1.2 t4.1;
          few_symbols = rw t5.1.long are.symbols;
          short_symbols = t5.1.short;
          narrow_symbols = rw same t5.1.narrow;
        };
        old = holds;
      },
      head,
      whole ∙ rw same (simp (append_assoc, append-nil) refl),
    )))))))

-- the header of parts in its ranges
pub header_of-parts : (parts : Parts) → AreOldParts parts → IsHeader (header_of parts)
header_of-parts parts old =
    let shaped = old.shaped in
    let frame = shaped.header in
    record {
      frame = frame;
      sizes = record {
        period = (frame.periods.some, frame.periods.limit);
        height = (frame.some, frame.low);
        objects = (shaped.some, shaped.few);
        span = (frame.long, frame.short);
        blocks = shaped.blocks;
        alphabet = shaped.few_values;
        rules = shaped.few_rules;
        symbols = shaped.few_symbols;
        untold = λ silent. absurd (let e = sym old.old ∙ silent in cc);
      };
    }

-- shaped parts are read from their bytes
pub parts_after-again : (parts : Parts) → AreOldParts parts → parts_after (header_of parts) (parts_bytes parts) ≡ Ok parts
unfolding parts_after parts_bytes
parts_after-again parts old =
    let shaped = old.shaped in
    let spelling = spelling_of parts.frame.version in
    let r5 = log_bytes spelling (symbol_width parts) parts.symbols ++ [] in
    let r4 = flat_map period_bytes parts.periods ++ r5 in
    let r3 = flat_map rule_bytes parts.rules ++ r4 in
    let r2 = flat_map long_bytes parts.alphabet ++ r3 in
    let text : parts_bytes parts ≡ flat_map short_bytes parts.objects ++ r2 = simp (append_assoc, append-nil) refl in
    ap (parts_after (header_of parts)) text ∙ rw (
      items_at-again (rising_listed wide32 Objects) parts.objects (length parts.objects) r2 refl (shaped.objects, shaped.short_objects),
      items_at-again (rising_listed wide64 Alphabet) parts.alphabet (length parts.alphabet) r3 refl (shaped.alphabet, shaped.long_alphabet),
      items_at-again rules_listed parts.rules (length parts.rules) r4 refl shaped.short_rules,
      items_at-again (periods_listed (length parts.objects)) parts.periods (periods_of parts.frame) r5 shaped.periods shaped.each,
      log_at-again spelling (symbol_width parts) parts.symbols [] shaped.short_symbols shaped.narrow_symbols,
    ) refl
