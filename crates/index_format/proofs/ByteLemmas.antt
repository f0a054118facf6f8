-- The bytes of a header are below 256.
use Rattle.std.specs.Prelude.{if◌then◌else◌}
use Rattle.std.proofs.Common.{true, false, Bool, ◌≡◌, ℕ, zero, suc, ◌<◌, List, [], ◌∷◌, ◌++◌, refl, sym, subst, append_assoc, arith}
use Rattle.track_types.specs.Spelling.{holds_parts, spelling_of}
use Rattle.track_types.specs.declared.spelling.Spelling.{Spelling}
use Rattle.index_format.specs.declared.header.Header.{Header}
use Rattle.index_format.specs.declared.header.Sizes.{Sizes}
use Rattle.index_format.specs.Spelling.{magic, short_bytes, long_bytes, signed_bytes, symbols_bytes, size_bytes, fields_bytes, header_bytes, sizes_of}
use Rattle.index_format.proofs.BitLemmas.{IsBytes}

-- bytes after bytes
IsBytes-append : (xs ys : List ℕ) → IsBytes xs → IsBytes ys → IsBytes (xs ++ ys)
IsBytes-append [] ys first second i = second i
IsBytes-append (x ∷ xs) ys first second zero = first 0
IsBytes-append (x ∷ xs) ys first second (suc i) = IsBytes-append xs ys (λ j. first (suc j)) second i

IsBytes-nil : IsBytes []
IsBytes-nil i = omega arith

IsBytes-short : (n : ℕ) → IsBytes (short_bytes n)
unfolding short_bytes
IsBytes-short n zero = omega arith
IsBytes-short n (suc zero) = omega arith
IsBytes-short n (suc (suc zero)) = omega arith
IsBytes-short n (suc (suc (suc zero))) = omega arith
IsBytes-short n (suc (suc (suc (suc i)))) = IsBytes-nil i

IsBytes-long : (n : ℕ) → IsBytes (long_bytes n)
unfolding long_bytes
IsBytes-long n zero = omega arith
IsBytes-long n (suc zero) = omega arith
IsBytes-long n (suc (suc zero)) = omega arith
IsBytes-long n (suc (suc (suc zero))) = omega arith
IsBytes-long n (suc (suc (suc (suc zero)))) = omega arith
IsBytes-long n (suc (suc (suc (suc (suc zero))))) = omega arith
IsBytes-long n (suc (suc (suc (suc (suc (suc zero)))))) = omega arith
IsBytes-long n (suc (suc (suc (suc (suc (suc (suc zero))))))) = omega arith
IsBytes-long n (suc (suc (suc (suc (suc (suc (suc (suc i)))))))) = IsBytes-nil i

-- how many symbols there are, where that is said
IsBytes-symbols : (told : Bool) (symbols : ℕ) → IsBytes (if told then short_bytes symbols else [])
IsBytes-symbols true symbols = IsBytes-short symbols
IsBytes-symbols false symbols = IsBytes-nil

-- the numbers of four bytes
IsBytes-sizes : (spelling : Spelling) (sizes : Sizes) → IsBytes (size_bytes spelling sizes)
unfolding size_bytes symbols_bytes
IsBytes-sizes spelling sizes =
    let r6 = short_bytes sizes.rules ++ symbols_bytes spelling sizes.symbols in
    let r5 = short_bytes sizes.alphabet ++ r6 in
    let r4 = short_bytes sizes.span ++ r5 in
    let r3 = short_bytes sizes.objects ++ r4 in
    let r2 = short_bytes sizes.height ++ r3 in
    let text : size_bytes spelling sizes ≡ short_bytes sizes.period ++ r2 = simp append_assoc refl in
    let t6 = IsBytes-append (short_bytes sizes.rules) (symbols_bytes spelling sizes.symbols) (IsBytes-short sizes.rules)
    (IsBytes-symbols (holds_parts spelling) sizes.symbols) in
    let t5 = IsBytes-append (short_bytes sizes.alphabet) r6 (IsBytes-short sizes.alphabet) t6 in
    let t4 = IsBytes-append (short_bytes sizes.span) r5 (IsBytes-short sizes.span) t5 in
    let t3 = IsBytes-append (short_bytes sizes.objects) r4 (IsBytes-short sizes.objects) t4 in
    let t2 = IsBytes-append (short_bytes sizes.height) r3 (IsBytes-short sizes.height) t3 in
    subst IsBytes (sym text) (IsBytes-append (short_bytes sizes.period) r2 (IsBytes-short sizes.period) t2)

-- those of a header in its ranges
pub IsBytes-header : (header : Header) → header.frame.version < 208 → IsBytes (header_bytes header)
unfolding header_bytes fields_bytes size_bytes symbols_bytes signed_bytes
IsBytes-header header known =
    let frame = header.frame in
    let spelling = spelling_of frame.version in
    let r5 = long_bytes frame.cell ++ long_bytes frame.tick in
    let r4 = signed_bytes frame.base.y ++ r5 in
    let r3 = signed_bytes frame.base.x ++ r4 in
    let r2 = signed_bytes frame.first ++ r3 in
    let text : header_bytes header ≡ magic frame.version ++ (size_bytes spelling (sizes_of header) ++ r2) = simp append_assoc refl in
    let t5 = IsBytes-append (long_bytes frame.cell) (long_bytes frame.tick) (IsBytes-long frame.cell) (IsBytes-long frame.tick) in
    let t4 = IsBytes-append (signed_bytes frame.base.y) r5 (IsBytes-long _) t5 in
    let t3 = IsBytes-append (signed_bytes frame.base.x) r4 (IsBytes-long _) t4 in
    let t2 = IsBytes-append (signed_bytes frame.first) r3 (IsBytes-long _) t3 in
    subst IsBytes (sym text) (IsBytes-append (magic frame.version) _ named
    (IsBytes-append (size_bytes spelling (sizes_of header)) r2 (IsBytes-sizes spelling (sizes_of header)) t2))
  where
    named : IsBytes (magic header.frame.version)
    named zero = omega arith
    named (suc zero) = omega arith
    named (suc (suc zero)) = omega arith
    named (suc (suc (suc zero))) = omega arith
    named (suc (suc (suc (suc zero)))) = omega arith
    named (suc (suc (suc (suc (suc zero))))) = omega arith
    named (suc (suc (suc (suc (suc (suc zero)))))) = omega arith
    named (suc (suc (suc (suc (suc (suc (suc zero))))))) = omega (arith, known)
    named (suc (suc (suc (suc (suc (suc (suc (suc i)))))))) = IsBytes-nil i
