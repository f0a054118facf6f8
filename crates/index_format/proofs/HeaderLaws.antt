-- The header: what is read is spelled so and in its ranges, and what is in its ranges is read again.
use Rattle.std.proofs.Common.{Bor, Result, ◌≡◌, ℕ, ℤ, pos, ◌+◌, ◌-◌, ◌*◌, ◌^◌, ◌<◌, ◌≤◌, Bool, true, false, ltb, List, ◌++◌, length, take, drop, zero, suc, inl, inr, Ok, Err, refl, sym, ap, subst, FitsSigned, ◌∙◌, append_assoc, arith}
use Rattle.std.specs.Prelude.{IfOk, nat_le, neg_ℤ, ◌≤ℤ◌, ◌+ℤ◌}
use Rattle.std.specs.Int.{Width, w32, w64, cast_signed, cast_unsigned, div_ceil}
use Rattle.std.specs.Int.Signed.{le_z}
use Rattle.std.specs.Str.{bytes_eq}
use Rattle.std.proofs.lemmas.Bool.{cases_Bool, le-ltb, and_parts, and_from}
use Rattle.std.proofs.lemmas.Bool.Decides.{nat_tests}
use Rattle.std.proofs.lemmas.Int.{ints, of_z-to_z, to_z-of_z, fits_signed_from_abs}
use Rattle.std.proofs.Math.Facts.{Fits-of_z}
use Rattle.std.proofs.lemmas.List.{take-append-drop}
use Rattle.std.proofs.lemmas.Slice.Eq.{bytes_eq-Decides}
use Rattle.track_types.specs.Near.{IsNear}
use Rattle.track_types.specs.Limits.{limit_of}
use Rattle.track_types.specs.Spelling.{greatest_height, holds_parts, spelling_of}
use Rattle.track_types.specs.declared.limit.LimitKind.TheVariants as limits
use Rattle.track_types.specs.declared.limit.TheConstants.{MAX_PERIOD, MAX_RESOLUTION, MAX_VERSION}
use Rattle.track_types.specs.declared.flaw.Kind.TheVariants.{Short}
use Rattle.track_types.specs.declared.spelling.Spelling.{Spelling}
use Rattle.track_types.proofs.RegionLemmas.{le_z-from, le_z-is}
use Rattle.track_types.proofs.SpellingLemmas.{greatest_height-limit}
use Rattle.index_format.specs.declared.header.Header.{Header}
use Rattle.index_format.specs.declared.header.Sizes.{Sizes}
use Rattle.index_format.specs.Spelling.{magic, short_bytes, long_bytes, signed_bytes, symbols_bytes, size_bytes, fields_bytes, header_bytes, sizes_of}
use Rattle.track_types.specs.declared.format_fault.FormatFault.{FormatFault}
use Rattle.index_format.specs.Answers.{Gives}
use Rattle.index_format.specs.Headers.{AreSizes, IsHeader}
use Rattle.index_format.specs.Fields.{Taken, number_at}
use Rattle.index_format.specs.Reading.{header_flaw, is_in_range, is_span, is_first, is_near, far, version_at, field_at, signed_at, symbols_at, sizes_at, long_place, fields_at, header_at}
use Rattle.index_format.proofs.BitLemmas.{IsBytes, IsBytes-drop}
use Rattle.index_format.proofs.Laws.{Takes, Takes-then, Takes-text, then_ok, test_ok, guard_ok, else_ok, IsWide, wide32, wide64, number_at-takes, number_at-again}

-- the tests of a range

between : (least greatest n : ℕ) → is_in_range least greatest n ≡ true → (least ≤ n) × (n ≤ greatest)
between least greatest n test =
    let both = and_parts (nat_le least n) (nat_le n greatest) test in
    (grind (arith, nat_tests, both.0), grind (arith, nat_tests, both.1))

is_in_range-true : (least greatest n : ℕ) → least ≤ n → n ≤ greatest → is_in_range least greatest n ≡ true
is_in_range-true least greatest n low high =
    and_from (nat_le least n) (nat_le n greatest) (grind (arith, nat_tests, low)) (grind (arith, nat_tests, high))

-- fields

module _ {w : Width} {limit : ℕ} {spell : ℕ → List ℕ} (wide : IsWide w limit spell) (index : ℕ) (passes : ℕ → Bool) where
  pub field_at-takes : (bytes : List ℕ) → IsBytes bytes
      → IfOk (field_at w index passes bytes) (λ n. Takes bytes (spell n.0) n.1 × (n.0 < limit) × (passes n.0 ≡ true))
  unfolding field_at
  field_at-takes bytes fits =
      then_ok _ _ (number_at w (header_flaw index Short) bytes) (number_at-takes wide (header_flaw index Short) bytes fits) (λ n taken.
      test_ok _ _ _ (passes n.0) (λ good. (taken.0, taken.1, good)))

  pub field_at-again : (n : ℕ) (rest : List ℕ) → n < limit → passes n ≡ true → field_at w index passes (spell n ++ rest) ≡ Ok (n, rest)
  unfolding field_at
  field_at-again n rest small good =
      let read = number_at-again wide (header_flaw index Short) n rest small in
      rw (read, good) refl

module _ (index : ℕ) (passes : ℤ → Bool) where
  signed_at-takes : (bytes : List ℕ) → IsBytes bytes
      → IfOk (signed_at index passes bytes) (λ z. Takes bytes (signed_bytes z.0) z.1 × (passes z.0 ≡ true))
  unfolding signed_at signed_bytes
  signed_at-takes bytes fits =
      then_ok _ _ (number_at w64 (header_flaw index Short) bytes) (number_at-takes wide64 (header_flaw index Short) bytes fits) (λ n taken.
      test_ok _ _ _ (passes (cast_signed w64 n.0)) (λ good.
      let back : cast_unsigned w64 (cast_signed w64 n.0) ≡ n.0 = of_z-to_z w64 n.0 taken.1 in
      (rw back taken.0, good)))

  signed_at-again : (z : ℤ) (rest : List ℕ) → FitsSigned w64 z → passes z ≡ true
      → signed_at index passes (signed_bytes z ++ rest) ≡ Ok (z, rest)
  unfolding signed_at signed_bytes
  signed_at-again z rest fits good =
      let bits = cast_unsigned w64 z in
      let read = number_at-again wide64 (header_flaw index Short) bits rest (omega (arith, Fits-of_z {w = w64} {z = z} fits)) in
      let back : cast_signed w64 bits ≡ z = to_z-of_z w64 z fits in
      rw (read, back, good) refl

-- the bytes at the front that name a version
front_named : (bytes : List ℕ) → IsBytes bytes → (version : ℕ) → bytes_eq (take 8 bytes) (magic version) ≡ true
    → Takes bytes (magic version) (drop 8 bytes)
front_named bytes fits version same =
    let front : take 8 bytes ≡ magic version = (bytes_eq-Decides (take 8 bytes) (magic version)).0 same in
    record { parts = sym (take-append-drop 8 bytes) ∙ ap (λ text. text ++ drop 8 bytes) front; fits = IsBytes-drop 8 bytes fits }

-- the eight bytes at the front
version_at-takes : (bytes : List ℕ) → IsBytes bytes
    → IfOk (version_at bytes) (λ v. Takes bytes (magic v.0) v.1 × (1 ≤ v.0) × (v.0 ≤ MAX_VERSION))
unfolding version_at
version_at-takes bytes fits =
    guard_ok _ _ _ (ltb (length bytes) 8) (λ enough.
    else_ok _ _ _ (bytes_eq (take 8 bytes) (magic 1)) (λ same. (named 1 same, omega arith, omega arith))
    (else_ok _ _ _ (bytes_eq (take 8 bytes) (magic 2)) (λ same. (named 2 same, omega arith, omega arith))
    (test_ok _ _ _ (bytes_eq (take 8 bytes) (magic 3)) (λ same. (named 3 same, omega arith, omega arith)))))
  where
    named : (version : ℕ) → bytes_eq (take 8 bytes) (magic version) ≡ true → Takes bytes (magic version) (drop 8 bytes)
    named = front_named bytes fits

version_at-again : (version : ℕ) (rest : List ℕ) → 1 ≤ version → version ≤ MAX_VERSION → version_at (magic version ++ rest) ≡ Ok (version, rest)
unfolding version_at
version_at-again zero rest known newest = absurd (omega arith)
version_at-again (suc zero) rest known newest =
    let enough : ltb (length (magic 1 ++ rest)) 8 ≡ false = le-ltb (length (magic 1 ++ rest)) 8 (omega arith) in
    rw enough refl
version_at-again (suc (suc zero)) rest known newest =
    let enough : ltb (length (magic 2 ++ rest)) 8 ≡ false = le-ltb (length (magic 2 ++ rest)) 8 (omega arith) in
    rw enough refl
version_at-again (suc (suc (suc zero))) rest known newest =
    let enough : ltb (length (magic 3 ++ rest)) 8 ≡ false = le-ltb (length (magic 3 ++ rest)) 8 (omega arith) in
    rw enough refl
version_at-again (suc (suc (suc (suc more)))) rest known newest = absurd (omega arith)

-- how many symbols there are, as it was read
symbols_at-takes : (spelling : Spelling) (bytes : List ℕ) → IsBytes bytes
    → IfOk (symbols_at spelling bytes) (λ n. Takes bytes (symbols_bytes spelling n.0) n.1
    × (n.0 ≤ limit_of limits.Symbols) × (holds_parts spelling ≡ false → n.0 ≡ 0))
unfolding symbols_at symbols_bytes
symbols_at-takes spelling bytes fits = elim (cases_Bool (holds_parts spelling)) [
  | inl holds ↦
      rw holds (then_ok_of (field_at w32 7 (is_in_range 0 many) bytes) (field_at-takes wide32 7 (is_in_range 0 many) bytes fits))
  | inr silent ↦ rw silent (record { parts = refl; fits = fits }, omega arith, λ untold. refl)
]
  where
    many : ℕ
    many = limit_of limits.Symbols

    then_ok_of : (read : Taken ℕ) → IfOk read (λ n. Takes bytes (short_bytes n.0) n.1 × (n.0 < 2 ^ 32) × (is_in_range 0 many n.0 ≡ true))
        → IfOk read (λ n. Takes bytes (short_bytes n.0) n.1 × (n.0 ≤ many) × (true ≡ false → n.0 ≡ 0))
    then_ok_of (Ok n) (taken, small, good) = (taken, (between 0 many n.0 good).1, λ silent. absurd (let e = silent in cc))
    then_ok_of (Err flaw) given = tt

-- how many symbols there are is read again
symbols_at-again : (spelling : Spelling) (symbols : ℕ) (rest : List ℕ) → symbols ≤ limit_of limits.Symbols
    → (holds_parts spelling ≡ false → symbols ≡ 0) → symbols_at spelling (symbols_bytes spelling symbols ++ rest) ≡ Ok (symbols, rest)
unfolding symbols_at symbols_bytes
symbols_at-again spelling symbols rest few untold = elim (cases_Bool (holds_parts spelling)) [
  | inl holds ↦ let many = limit_of limits.Symbols in
      rw holds (field_at-again wide32 7 (is_in_range 0 many) symbols rest (omega (arith, few))
      (is_in_range-true 0 many symbols (omega arith) few))
  | inr silent ↦ rw (silent, untold silent) refl
]

-- sizes that were read are spelled so
sizes_at-takes : (spelling : Spelling) (bytes : List ℕ) → IsBytes bytes
    → IfOk (sizes_at spelling bytes) (λ s. Takes bytes (size_bytes spelling s.0) s.1 × AreSizes spelling s.0)
unfolding sizes_at size_bytes
sizes_at-takes spelling bytes fits =
    let high = greatest_height spelling in
    let many = limit_of limits.Symbols in
    then_ok _ _ (field_at w32 1 (is_in_range 1 MAX_PERIOD) bytes) (field_at-takes wide32 1 (is_in_range 1 MAX_PERIOD) bytes fits) (λ period t1.
    then_ok _ _ (field_at w32 2 (is_in_range 1 high) period.1) (field_at-takes wide32 2 (is_in_range 1 high) period.1 t1.0.fits) (λ height t2.
    then_ok _ _ (field_at w32 3 (is_in_range 1 (limit_of limits.Objects)) height.1) (field_at-takes wide32 3 (is_in_range 1 (limit_of limits.Objects)) height.1 t2.0.fits) (λ objects t3.
    then_ok _ _ (field_at w32 4 (is_span objects.0 period.0) objects.1) (field_at-takes wide32 4 (is_span objects.0 period.0) objects.1 t3.0.fits) (λ span t4.
    then_ok _ _ (field_at w32 5 (is_in_range 0 many) span.1) (field_at-takes wide32 5 (is_in_range 0 many) span.1 t4.0.fits) (λ alphabet t5.
    then_ok _ _ (field_at w32 6 (is_in_range 0 many) alphabet.1) (field_at-takes wide32 6 (is_in_range 0 many) alphabet.1 t5.0.fits) (λ rules t6.
    then_ok _ _ (symbols_at spelling rules.1) (symbols_at-takes spelling rules.1 t6.0.fits) (λ symbols t7.
    let blocks = objects.0 * div_ceil span.0 period.0 in
    let both = and_parts (is_in_range 1 (limit_of limits.Span) span.0) (nat_le blocks (limit_of limits.Blocks)) t4.2 in (
      Takes-text _ (simp append_assoc refl)
          (Takes-then t1.0 (Takes-then t2.0 (Takes-then t3.0 (Takes-then t4.0 (Takes-then t5.0 (Takes-then t6.0 t7.0)))))),
      record {
        period = between 1 MAX_PERIOD period.0 t1.2;
        height = between 1 high height.0 t2.2;
        objects = between 1 (limit_of limits.Objects) objects.0 t3.2;
        span = between 1 (limit_of limits.Span) span.0 both.0;
        blocks = grind (arith, nat_tests, both.1);
        alphabet = (between 0 many alphabet.0 t5.2).1;
        rules = (between 0 many rules.0 t6.2).1;
        symbols = t7.1;
        untold = t7.2;
      },
    ))))))))

-- sizes that are spelled so are read
sizes_at-again : (spelling : Spelling) (sizes : Sizes) (rest : List ℕ) → AreSizes spelling sizes
    → sizes_at spelling (size_bytes spelling sizes ++ rest) ≡ Ok (sizes, rest)
unfolding sizes_at size_bytes
sizes_at-again spelling sizes rest are =
    let high = greatest_height spelling in
    let many = limit_of limits.Symbols in
    let r7 = symbols_bytes spelling sizes.symbols ++ rest in
    let r6 = short_bytes sizes.rules ++ r7 in
    let r5 = short_bytes sizes.alphabet ++ r6 in
    let r4 = short_bytes sizes.span ++ r5 in
    let r3 = short_bytes sizes.objects ++ r4 in
    let r2 = short_bytes sizes.height ++ r3 in
    let text : size_bytes spelling sizes ++ rest ≡ short_bytes sizes.period ++ r2 = simp append_assoc refl in
    let blocks = sizes.objects * div_ceil sizes.span sizes.period in
    let few : nat_le blocks (limit_of limits.Blocks) ≡ true = grind (arith, nat_tests, are.blocks) in
    let span = and_from (is_in_range 1 (limit_of limits.Span) sizes.span) (nat_le blocks (limit_of limits.Blocks))
    (is_in_range-true 1 (limit_of limits.Span) sizes.span are.span.0 are.span.1) few in
    ap (sizes_at spelling) text ∙ rw (
      field_at-again wide32 1 (is_in_range 1 MAX_PERIOD) sizes.period r2 (omega (arith, are.period.1))
          (is_in_range-true 1 MAX_PERIOD sizes.period are.period.0 are.period.1),
      field_at-again wide32 2 (is_in_range 1 high) sizes.height r3 (omega (arith, are.height.1, greatest_height-limit spelling))
          (is_in_range-true 1 high sizes.height are.height.0 are.height.1),
      field_at-again wide32 3 (is_in_range 1 (limit_of limits.Objects)) sizes.objects r4 (omega (arith, are.objects.1))
          (is_in_range-true 1 (limit_of limits.Objects) sizes.objects are.objects.0 are.objects.1),
      field_at-again wide32 4 (is_span sizes.objects sizes.period) sizes.span r5 (omega (arith, are.span.1)) span,
      field_at-again wide32 5 (is_in_range 0 many) sizes.alphabet r6 (omega (arith, are.alphabet))
          (is_in_range-true 0 many sizes.alphabet (omega arith) are.alphabet),
      field_at-again wide32 6 (is_in_range 0 many) sizes.rules r7 (omega (arith, are.rules))
          (is_in_range-true 0 many sizes.rules (omega arith) are.rules),
      symbols_at-again spelling sizes.symbols rest are.symbols are.untold,
    ) refl

-- a number at most `far` from 0 fits in eight bytes
near_fits : (z : ℤ) → neg_ℤ far ≤ℤ z → z ≤ℤ far → FitsSigned w64 z
near_fits z low high = fits_signed_from_abs w64 z (omega (arith, ints, low, high))

near : (z : ℤ) → is_near z ≡ true → IsNear z
near z test =
    let both = and_parts (le_z (neg_ℤ far) z) (le_z z far) test in
    record { low = le_z-is (neg_ℤ far) z both.0; high = le_z-is z far both.1 }

near-true : (z : ℤ) → IsNear z → is_near z ≡ true
near-true z is = and_from (le_z (neg_ℤ far) z) (le_z z far) (le_z-from (neg_ℤ far) z is.low) (le_z-from z far is.high)

-- the first instant is not after the last
first_before : (first : ℤ) (more : ℕ) → (first +ℤ pos more) ≤ℤ far → first ≤ℤ far
first_before first more ends = omega (arith, ints, ends)

-- fields that were read are spelled so
pub fields_at-takes : (version : ℕ) → 1 ≤ version → version ≤ MAX_VERSION → (bytes : List ℕ) → IsBytes bytes
    → IfOk (fields_at version bytes) (λ h. Takes bytes (fields_bytes h.0) h.1 × IsHeader h.0 × (h.0.frame.version ≡ version))
unfolding fields_at fields_bytes
fields_at-takes version known newest bytes fits =
    let units = is_in_range 1 MAX_RESOLUTION in
    let spelling = spelling_of version in
    let place = long_place spelling in
    then_ok _ _ (sizes_at spelling bytes) (sizes_at-takes spelling bytes fits) (λ sizes t1.
    then_ok _ _ (signed_at place (is_first sizes.0.span) sizes.1) (signed_at-takes place (is_first sizes.0.span) sizes.1 t1.0.fits) (λ first t2.
    then_ok _ _ (signed_at (place + 1) is_near first.1) (signed_at-takes (place + 1) is_near first.1 t2.0.fits) (λ x t3.
    then_ok _ _ (signed_at (place + 2) is_near x.1) (signed_at-takes (place + 2) is_near x.1 t3.0.fits) (λ y t4.
    then_ok _ _ (field_at w64 (place + 3) units y.1) (field_at-takes wide64 (place + 3) units y.1 t4.0.fits) (λ cell t5.
    then_ok _ _ (field_at w64 (place + 4) units cell.1) (field_at-takes wide64 (place + 4) units cell.1 t5.0.fits) (λ tick t6.
    let begin = and_parts (le_z (neg_ℤ far) first.0) (le_z (first.0 +ℤ pos (sizes.0.span - 1)) far) t2.1 in
    let cells = between 1 MAX_RESOLUTION cell.0 t5.2 in
    let ticks = between 1 MAX_RESOLUTION tick.0 t6.2 in
    let are = t1.1 in (
      Takes-text _ (simp append_assoc refl)
          (Takes-then t1.0 (Takes-then t2.0 (Takes-then t3.0 (Takes-then t4.0 (Takes-then t5.0 t6.0))))),
      record {
        frame = record {
          periods = record { some = are.period.0; limit = are.period.1 };
          known = known;
          newest = newest;
          some = are.height.0;
          limit = omega (arith, are.height.1, greatest_height-limit spelling);
          low = are.height.1;
          long = are.span.0;
          short = are.span.1;
          begins = le_z-is (neg_ℤ far) first.0 begin.0;
          ends = le_z-is (first.0 +ℤ pos (sizes.0.span - 1)) far begin.1;
          columns = near x.0 t3.1;
          lines = near y.0 t4.1;
          cells = record { some = cells.0; limit = cells.1 };
          ticks = record { some = ticks.0; limit = ticks.1 };
        };
        sizes = are;
      },
      refl,
    )))))))

-- fields in their ranges that are spelled so are read
pub fields_at-again : (header : Header) (rest : List ℕ) → IsHeader header
    → fields_at header.frame.version (fields_bytes header ++ rest) ≡ Ok (header, rest)
unfolding fields_at fields_bytes
fields_at-again header rest is =
    let frame = header.frame in
    let units = is_in_range 1 MAX_RESOLUTION in
    let spelling = spelling_of frame.version in
    let place = long_place spelling in
    let r6 = long_bytes frame.tick ++ rest in
    let r5 = long_bytes frame.cell ++ r6 in
    let r4 = signed_bytes frame.base.y ++ r5 in
    let r3 = signed_bytes frame.base.x ++ r4 in
    let r2 = signed_bytes frame.first ++ r3 in
    let text : fields_bytes header ++ rest ≡ size_bytes spelling (sizes_of header) ++ r2 = simp append_assoc refl in
    let begins = and_from (le_z (neg_ℤ far) frame.first) (le_z (frame.first +ℤ pos (frame.span - 1)) far)
    (le_z-from (neg_ℤ far) frame.first is.frame.begins)
    (le_z-from (frame.first +ℤ pos (frame.span - 1)) far is.frame.ends) in
    ap (fields_at frame.version) text ∙ rw (
      sizes_at-again spelling (sizes_of header) r2 is.sizes,
      signed_at-again place (is_first frame.span) frame.first r3
          (near_fits frame.first is.frame.begins (first_before frame.first (frame.span - 1) is.frame.ends)) begins,
      signed_at-again (place + 1) is_near frame.base.x r4 (near_fits frame.base.x is.frame.columns.low is.frame.columns.high)
          (near-true frame.base.x is.frame.columns),
      signed_at-again (place + 2) is_near frame.base.y r5 (near_fits frame.base.y is.frame.lines.low is.frame.lines.high)
          (near-true frame.base.y is.frame.lines),
      field_at-again wide64 (place + 3) units frame.cell r6 (omega (arith, is.frame.cells.limit))
          (is_in_range-true 1 MAX_RESOLUTION frame.cell is.frame.cells.some is.frame.cells.limit),
      field_at-again wide64 (place + 4) units frame.tick rest (omega (arith, is.frame.ticks.limit))
          (is_in_range-true 1 MAX_RESOLUTION frame.tick is.frame.ticks.some is.frame.ticks.limit),
    ) refl

-- a header that was read is spelled so
pub header_at-takes : (bytes : List ℕ) → IsBytes bytes → IfOk (header_at bytes) (λ h. Takes bytes (header_bytes h.0) h.1 × IsHeader h.0)
unfolding header_at header_bytes
header_at-takes bytes fits =
    then_ok _ _ (version_at bytes) (version_at-takes bytes fits) (λ version t0.
    named version.0 version.1 t0.0 (fields_at version.0 version.1)
    (fields_at-takes version.0 t0.1 t0.2 version.1 t0.0.fits))
  where
    named : (version : ℕ) (rest : List ℕ) → Takes bytes (magic version) rest → (read : Taken Header)
        → IfOk read (λ h. Takes rest (fields_bytes h.0) h.1 × IsHeader h.0 × (h.0.frame.version ≡ version))
        → IfOk read (λ h. Takes bytes (magic h.0.frame.version ++ fields_bytes h.0) h.1 × IsHeader h.0)
    named version rest before (Err flaw) given = tt
    named version rest before (Ok h) (taken, is, same) = (
      subst (λ v. Takes bytes (magic v ++ fields_bytes h.0) h.1) (sym same) (Takes-then before taken),
      is,
    )

-- a header in its ranges that is spelled so is read
pub header_at-again : (header : Header) (rest : List ℕ) → IsHeader header
    → header_at (header_bytes header ++ rest) ≡ Ok (header, rest)
unfolding header_at header_bytes
header_at-again header rest is =
    let text : header_bytes header ++ rest ≡ magic header.frame.version ++ (fields_bytes header ++ rest) = simp append_assoc refl in
    ap header_at text ∙ rw (
      version_at-again header.frame.version (fields_bytes header ++ rest) is.frame.known is.frame.newest,
      fields_at-again header rest is,
    ) refl

-- a header that was answered to bytes is in its ranges
pub given_header : (bytes : List ℕ) (answer : Result (Header × Bor (List ℕ)) FormatFault) → IsBytes bytes
    → Gives (λ x. (x.0, x.1.now)) answer (header_at bytes) → IfOk answer (λ x. IsHeader x.0)
given_header bytes (Ok x) fits given = of_ok (header_at bytes) (header_at-takes bytes fits) given
  where
    of_ok : (read : Taken Header) → IfOk read (λ h. Takes bytes (header_bytes h.0) h.1 × IsHeader h.0) → read ≡ Ok (x.0, x.1.now) → IsHeader x.0
    of_ok read holds is = (rw is at holds).1
given_header bytes (Err fault) fits given = tt
