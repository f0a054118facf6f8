-- What is read is spelled so, and what is spelled so is read: for each field, list and section.
use Rattle.std.proofs.Common.{◌≡◌, ℕ, zero, suc, ◌+◌, ◌^◌, ◌<◌, Bool, true, false, cond, ltb, List, [], ◌∷◌, ◌++◌, length, take, drop, Result, Ok, Err, refl, sym, ap, ◌∙◌, append_assoc, append-nil, arith}
use Rattle.std.specs.Prelude.{IfOk}
use Rattle.std.specs.List.{flat_map}
use Rattle.std.specs.Int.{Width, w32, w64, byte_len, from_le_bytes}
use Rattle.std.proofs.lemmas.Bool.{ltb-false, le-ltb}
use Rattle.std.proofs.lemmas.List.{take_at, drop_at, take-append-drop, length-append, length-take-le}
use Rattle.std.proofs.lemmas.List.Concat.{flat_map-cons}
use Rattle.std.proofs.lemmas.Nat.{le_bytes_4, le_bytes_8, from_le_bytes-to_le_bytes_4, from_le_bytes-to_le_bytes_8}
use Rattle.packed_bits.specs.Bits.{ones_of}
use Rattle.std.proofs.lemmas.List.{flat_map_more}
use Rattle.track_types.specs.declared.flaw.Flaw.{Flaw}
use Rattle.track_types.specs.declared.flaw.Section.{Section}
use Rattle.index_format.specs.Spelling.{short_bytes, long_bytes, bit_bytes, bits_in, bytes_for}
use Rattle.index_format.specs.Fields.{Taken, ◌>>=◌, number_at, items_at, has_spare, bits_at}
use Rattle.index_format.proofs.BitLemmas.{IsBytes, IsBytes-take, IsBytes-drop, bit_bytes-take, take-bits_in, spare-bit_bytes, length-bits_in, length-bit_bytes}

-- what was taken is the text, and bytes are left
pub record Takes (bytes text rest : List ℕ) : Type 0 where
  pub parts : bytes ≡ text ++ rest
  pub fits : IsBytes rest

-- one text after the other
pub Takes-then : {bytes one middle two rest : List ℕ} → Takes bytes one middle → Takes middle two rest → Takes bytes (one ++ two) rest
Takes-then {bytes} {one} {middle} {two} {rest} first second = record {
  parts = first.parts ∙ ap (λ tail. one ++ tail) second.parts ∙ sym (append_assoc one two rest);
  fits = second.fits;
}

-- the text in other brackets
pub Takes-text : {bytes text rest : List ℕ} (same : List ℕ) → same ≡ text → Takes bytes text rest → Takes bytes same rest
Takes-text {bytes} {text} {rest} same is taken = record {
  parts = taken.parts ∙ ap (λ text. text ++ rest) (sym is);
  fits = taken.fits;
}

-- after a step that did not fail the next one is judged
pub then_ok : {A B : Type 0} {P : A → Type 0} (Q : B → Type 0) (f : A → Result B Flaw) (read : Result A Flaw)
    → IfOk read P → ((a : A) → P a → IfOk (f a) Q) → IfOk (read >>= f) Q
then_ok Q f (Ok a) held next = next a held
then_ok Q f (Err flaw) held next = tt

-- a test that stands after a step
pub test_ok : {A : Type 0} (Q : A → Type 0) (a : A) (flaw : Flaw) (test : Bool)
    → (test ≡ true → Q a) → IfOk (cond test (Ok a) (Err flaw)) Q
test_ok Q a flaw true held = held refl
test_ok Q a flaw false held = tt

-- a test that must not hold
pub guard_ok : {A : Type 0} (Q : A → Type 0) (read : Result A Flaw) (flaw : Flaw) (test : Bool)
    → (test ≡ false → IfOk read Q) → IfOk (cond test (Err flaw) read) Q
guard_ok Q read flaw true held = tt
guard_ok Q read flaw false held = held refl

-- a test whose answer stands before others
pub else_ok : {A : Type 0} (Q : A → Type 0) (a : A) (other : Result A Flaw) (test : Bool)
    → (test ≡ true → Q a) → IfOk other Q → IfOk (cond test (Ok a) other) Q
else_ok Q a other true held rest = held refl
else_ok Q a other false held rest = rest

-- numbers of a width: their bytes, and back
pub record IsWide (w : Width) (limit : ℕ) (spell : ℕ → List ℕ) : Type 0 where
  pub long : (n : ℕ) → length (spell n) ≡ byte_len w
  pub back : (bytes : List ℕ) → length bytes ≡ byte_len w → IsBytes bytes → spell (from_le_bytes w bytes) ≡ bytes
  pub again : (n : ℕ) → n < limit → from_le_bytes w (spell n) ≡ n
  pub below : (bytes : List ℕ) → IsBytes bytes → from_le_bytes w bytes < limit

pub wide32 : IsWide w32 (2 ^ 32) short_bytes
unfolding short_bytes
wide32 = record {
  long = λ n. refl;
  back = λ bytes long fits. le_bytes_4 bytes _ long fits refl;
  again = λ n small. from_le_bytes-to_le_bytes_4 n small;
  below = λ bytes fits. omega (arith, fits 0, fits 1, fits 2, fits 3);
}

pub wide64 : IsWide w64 (2 ^ 64) long_bytes
unfolding long_bytes
wide64 = record {
  long = λ n. refl;
  back = λ bytes long fits. le_bytes_8 bytes _ long fits refl;
  again = λ n small. from_le_bytes-to_le_bytes_8 n small;
  below = λ bytes fits. omega (arith, fits 0, fits 1, fits 2, fits 3, fits 4, fits 5, fits 6, fits 7);
}

module _ {w : Width} {limit : ℕ} {spell : ℕ → List ℕ} (wide : IsWide w limit spell) (missing : Flaw) where
  -- a number that was read is spelled so
  pub number_at-takes : (bytes : List ℕ) → IsBytes bytes
      → IfOk (number_at w missing bytes) (λ n. Takes bytes (spell n.0) n.1 × (n.0 < limit))
  unfolding number_at
  number_at-takes bytes fits = guard_ok _ _ _ (ltb (length bytes) (byte_len w)) (λ enough.
      let long = length-take-le (byte_len w) bytes (ltb-false _ _ enough) in
      let front = IsBytes-take (byte_len w) bytes fits in (
        record {
          parts = sym (rw (wide.back (take (byte_len w) bytes) long front) (take-append-drop (byte_len w) bytes));
          fits = IsBytes-drop (byte_len w) bytes fits;
        },
        wide.below (take (byte_len w) bytes) front,
      ))

  -- a number that is spelled so is read
  pub number_at-again : (n : ℕ) (rest : List ℕ) → n < limit → number_at w missing (spell n ++ rest) ≡ Ok (n, rest)
  unfolding number_at
  number_at-again n rest small =
      let long = wide.long n in
      let enough : ltb (length (spell n ++ rest)) (byte_len w) ≡ false =
      le-ltb (length (spell n ++ rest)) (byte_len w) (omega (arith, length-append (spell n) rest, long)) in
      rw (enough, take_at (spell n) rest (byte_len w) long, drop_at (spell n) rest (byte_len w) long, wide.again n small) refl

-- items whose lists have a property, which every front of such a list has too
pub record IsListed {A : Type 0} (next : List A → List ℕ → Taken A) (spell : A → List ℕ) (P : List A → Type 0) : Type 0 where
  pub none : P []
  pub front : (xs ys : List A) → P (xs ++ ys) → P xs
  pub takes : (seen : List A) (bytes : List ℕ) → P seen → IsBytes bytes
      → IfOk (next seen bytes) (λ item. Takes bytes (spell item.0) item.1 × P (seen ++ item.0 ∷ []))
  pub again : (seen : List A) (item : A) (rest : List ℕ) → P (seen ++ item ∷ []) → next seen (spell item ++ rest) ≡ Ok (item, rest)

module _ {A : Type 0} {next : List A → List ℕ → Taken A} {spell : A → List ℕ} {P : List A → Type 0} (listed : IsListed next spell P) where
  -- what was read of a list: its property, its length, and its text after what was seen
  pub record IsRead (seen : List A) (count : ℕ) (bytes : List ℕ) (all : List A × List ℕ) : Type 0 where
    pub holds : P all.0
    pub long : length all.0 ≡ length seen + count
    pub text : flat_map spell seen ++ bytes ≡ flat_map spell all.0 ++ all.1
    pub fits : IsBytes all.1

  pub items_at-read : (count : ℕ) (seen : List A) (bytes : List ℕ) → P seen → IsBytes bytes
      → IfOk (items_at next count seen bytes) (IsRead seen count bytes)
  unfolding items_at
  items_at-read zero seen bytes holds fits = record { holds = holds; long = omega arith; text = refl; fits = fits }
  items_at-read (suc count) seen bytes holds fits =
      then_ok _ _ (next seen bytes) (listed.takes seen bytes holds fits) (λ item taken.
      IsRead-more item.0 item.1 (items_at next count (seen ++ item.0 ∷ []) item.1) taken.0.parts
      (items_at-read count (seen ++ item.0 ∷ []) item.1 taken.1 taken.0.fits))
    where
      IsRead-more : (item : A) (rest : List ℕ) (read : Taken (List A)) → bytes ≡ spell item ++ rest
          → IfOk read (IsRead (seen ++ item ∷ []) count rest) → IfOk read (IsRead seen (suc count) bytes)
      IsRead-more item rest (Err flaw) parts more = tt
      IsRead-more item rest (Ok all) parts more =
          let one : flat_map spell (seen ++ item ∷ []) ++ rest ≡ flat_map spell seen ++ bytes =
          ap (λ text. text ++ rest) (sym (flat_map_more spell [] seen item)) ∙ append_assoc (flat_map spell seen) (spell item) rest
          ∙ ap (λ tail. flat_map spell seen ++ tail) (sym parts) in
          record {
            holds = more.holds;
            long = omega (arith, more.long, length-append seen (item ∷ []));
            text = sym one ∙ more.text;
            fits = more.fits;
          }

  -- a list that was read is spelled so
  pub items_at-takes : (count : ℕ) (bytes : List ℕ) → IsBytes bytes
      → IfOk (items_at next count [] bytes) (λ all. Takes bytes (flat_map spell all.0) all.1 × P all.0 × (length all.0 ≡ count))
  items_at-takes count bytes fits = from_read (items_at next count [] bytes) (items_at-read count [] bytes listed.none fits)
    where
      from_read : (read : Taken (List A)) → IfOk read (IsRead [] count bytes)
          → IfOk read (λ all. Takes bytes (flat_map spell all.0) all.1 × P all.0 × (length all.0 ≡ count))
      from_read (Err flaw) given = tt
      from_read (Ok all) given = (record { parts = given.text; fits = given.fits }, given.holds, omega (arith, given.long))

  -- the rest of a list that is spelled so is read
  items_at-rest : (xs seen : List A) (rest : List ℕ) → P (seen ++ xs)
      → items_at next (length xs) seen (flat_map spell xs ++ rest) ≡ Ok (seen ++ xs, rest)
  unfolding items_at
  items_at-rest [] seen rest holds = ap (λ all. Ok (all, rest)) (sym (append-nil seen))
  items_at-rest (x ∷ xs) seen rest holds =
      let grouped : (seen ++ x ∷ []) ++ xs ≡ seen ++ x ∷ xs = append_assoc seen (x ∷ []) xs in
      let one = listed.front (seen ++ x ∷ []) xs (rw grouped holds) in
      let text : flat_map spell (x ∷ xs) ++ rest ≡ spell x ++ (flat_map spell xs ++ rest) =
      ap (λ text. text ++ rest) (flat_map-cons spell x xs) ∙ append_assoc (spell x) (flat_map spell xs) rest in
      let first = listed.again seen x (flat_map spell xs ++ rest) one in
      let others = items_at-rest xs (seen ++ x ∷ []) rest (rw grouped holds) in
      ap (items_at next (suc (length xs)) seen) text ∙ rw (first, others) (ap (λ all. Ok (all, rest)) grouped)

  -- a list that is spelled so is read
  pub items_at-again : (xs : List A) (count : ℕ) (rest : List ℕ) → length xs ≡ count → P xs
      → items_at next count [] (flat_map spell xs ++ rest) ≡ Ok (xs, rest)
  items_at-again xs count rest long holds =
      ap (λ n. items_at next n [] (flat_map spell xs ++ rest)) (sym long) ∙ items_at-rest xs [] rest holds

-- bits that were read are spelled so
pub bits_at-takes : (section : Section) (period count : ℕ) (bytes : List ℕ) → IsBytes bytes
    → IfOk (bits_at section period count bytes) (λ bits. Takes bytes (bit_bytes bits.0) bits.1 × (length bits.0 ≡ count))
unfolding bits_at
bits_at-takes section period count bytes fits =
    let front = take (bytes_for count) bytes in
    guard_ok _ _ _ (ltb (length bytes) (bytes_for count)) (λ enough.
    guard_ok _ _ _ (has_spare count front) (λ full.
    let long = length-take-le (bytes_for count) bytes (ltb-false _ _ enough) in
    let spare : ones_of (drop count (bits_in front)) ≡ 0 = omega (arith, ltb-false _ _ full) in
    let text = bit_bytes-take count front (IsBytes-take (bytes_for count) bytes fits) long spare in (
      record {
        parts = sym (rw text (take-append-drop (bytes_for count) bytes));
        fits = IsBytes-drop (bytes_for count) bytes fits;
      },
      length-take-le count (bits_in front) (omega (arith, length-bits_in front, long)),
    )))

-- bits that are spelled so are read
pub bits_at-again : (section : Section) (period count : ℕ) (bits : List Bool) (rest : List ℕ) → length bits ≡ count
    → bits_at section period count (bit_bytes bits ++ rest) ≡ Ok (bits, rest)
unfolding bits_at
bits_at-again section period count bits rest count_is =
    let long : length (bit_bytes bits) ≡ bytes_for count = length-bit_bytes bits ∙ ap bytes_for count_is in
    let enough : ltb (length (bit_bytes bits ++ rest)) (bytes_for count) ≡ false =
    le-ltb (length (bit_bytes bits ++ rest)) (bytes_for count) (omega (arith, length-append (bit_bytes bits) rest, long)) in
    let full : has_spare count (bit_bytes bits) ≡ false =
    ap (λ n. ltb 0 (ones_of (drop n (bits_in (bit_bytes bits))))) (sym count_is) ∙ ap (ltb 0) (spare-bit_bytes bits) in
    let same : take count (bits_in (bit_bytes bits)) ≡ bits =
    ap (λ n. take n (bits_in (bit_bytes bits))) (sym count_is) ∙ take-bits_in bits in
    rw (enough, take_at (bit_bytes bits) rest (bytes_for count) long, full, drop_at (bit_bytes bits) rest (bytes_for count) long, same) refl
