-- The log, packed or not: what is read is spelled so and in its range, and what is in its range is read again.
use Rattle.std.proofs.Common.{◌≡◌, ℕ, ◌*◌, ◌^◌, ◌<◌, ◌≤◌, true, List, [], ◌++◌, length, All, inl, inr, Ok, refl, sym, ◌∙◌, arith}
use Rattle.std.specs.Prelude.{IfOk}
use Rattle.std.proofs.Math.Nat.{pow-le-pow_right}
use Rattle.std.proofs.lemmas.Bool.{cases_Bool}
use Rattle.std.proofs.lemmas.List.Elements.{All-weaker}
use Rattle.std.proofs.lemmas.Result.{IfOk-weaker}
use Rattle.track_types.specs.PartsForm.{AreShort}
use Rattle.track_types.specs.Spelling.{packs_symbols}
use Rattle.track_types.specs.declared.flaw.Section.TheVariants.{Log}
use Rattle.track_types.specs.declared.spelling.Spelling.{Spelling}
use Rattle.index_format.specs.Fields.{items_at, short_at, bits_at, packed_at, log_at}
use Rattle.index_format.specs.Spelling.{bit_bytes, bits_with, log_bytes}
use Rattle.index_format.proofs.BitLemmas.{IsBytes}
use Rattle.index_format.proofs.Laws.{Takes, then_ok, items_at-takes, items_at-again, bits_at-takes, bits_at-again}
use Rattle.index_format.proofs.ListLaws.{shorts_listed}
use Rattle.index_format.proofs.SymbolLemmas.{bits_with-numbers_from_bits, length-bits_with, length-numbers_from_bits, numbers_from_bits-bits_with, small-numbers_from_bits}

-- so many symbols that fit
pub record IsLog (spelling : Spelling) (width count : ℕ) (symbols : List ℕ) : Type 0 where
  pub long : length symbols ≡ count
  pub short : AreShort symbols
  pub narrow : packs_symbols spelling ≡ true → All (λ symbol. symbol < 2 ^ width) symbols

-- packed numbers that were read
packed_at-takes : (spelling : Spelling) (width count : ℕ) (bytes : List ℕ) → width ≤ 32 → IsBytes bytes
    → IfOk (packed_at width count bytes) (λ symbols. Takes bytes (bit_bytes (bits_with width symbols.0)) symbols.1
    × IsLog spelling width count symbols.0)
unfolding packed_at
packed_at-takes spelling width count bytes narrow fits =
    then_ok _ _ (bits_at Log 0 (width * count) bytes) (bits_at-takes Log 0 (width * count) bytes fits) (λ bits taken.
    let text = bits_with-numbers_from_bits width count bits.0 taken.1 in
    let small = small-numbers_from_bits width count bits.0 taken.1 in
    let limit : 2 ^ width ≤ 2 ^ 32 = pow-le-pow_right {n = 2} (omega arith) narrow in (
      rw text taken.0,
      record {
        long = length-numbers_from_bits width count bits.0;
        short = All-weaker (λ n. n < 2 ^ width) (λ n. n < 2 ^ 32) (λ n low. omega (arith, low, limit)) _ small;
        narrow = λ packs. small;
      },
    ))

-- a log that was read is spelled so
pub log_at-takes : (spelling : Spelling) (width count : ℕ) (bytes : List ℕ) → width ≤ 32 → IsBytes bytes
    → IfOk (log_at spelling width count bytes) (λ symbols. Takes bytes (log_bytes spelling width symbols.0) symbols.1
    × IsLog spelling width count symbols.0)
unfolding log_at log_bytes
log_at-takes spelling width count bytes narrow fits = elim (cases_Bool (packs_symbols spelling)) [
  | inl packs ↦ rw packs (packed_at-takes spelling width count bytes narrow fits)
  | inr whole ↦
      rw whole
      (IfOk-weaker (items_at (short_at Log 0) count [] bytes) _ _
      (λ symbols taken. (taken.0, record { long = taken.2; short = taken.1; narrow = λ packs. absurd (let e = sym whole ∙ packs in cc) }))
      (items_at-takes (shorts_listed Log 0) count bytes fits))
]

-- a log that is spelled so is read
pub log_at-again : (spelling : Spelling) (width : ℕ) (symbols rest : List ℕ) → AreShort symbols
    → (packs_symbols spelling ≡ true → All (λ symbol. symbol < 2 ^ width) symbols)
    → log_at spelling width (length symbols) (log_bytes spelling width symbols ++ rest) ≡ Ok (symbols, rest)
unfolding log_at log_bytes packed_at
log_at-again spelling width symbols rest short narrow = elim (cases_Bool (packs_symbols spelling)) [
  | inl packs ↦
      let read = bits_at-again Log 0 (width * length symbols) (bits_with width symbols) rest (length-bits_with width symbols) in
      let same = numbers_from_bits-bits_with width symbols (narrow packs) in
      rw (packs, read, same) refl
  | inr whole ↦ rw whole (items_at-again (shorts_listed Log 0) symbols (length symbols) rest refl short)
]
