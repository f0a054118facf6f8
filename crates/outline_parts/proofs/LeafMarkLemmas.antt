-- Bits that mark where numbers end, each of which stands once or more: from the bits and the numbers follow the numbers
-- with their repetitions, and from these the bits and the numbers.
use Rattle.std.proofs.Common.{◌≡◌, ℕ, zero, suc, ◌+◌, ◌-◌, ◌<◌, ◌≤◌, ◌==◌, Bool, true, false, List, [], ◌∷◌, length, Some}
use Rattle.std.proofs.Common.{refl, ap, arith}
use Rattle.std.specs.Prelude.{slice_get, slice_index}
use Rattle.std.specs.List.{dedup, dedup_from}
use Rattle.std.proofs.lemmas.Bool.{eq-eqb, ne_eqb}
use Rattle.bit_rank.specs.Bits.{rank_of}
use Rattle.bit_rank.proofs.RankLemmas.{ones_of-cons, ones_of-nil, rank_of-cons, rank_of-zero}
use Rattle.k2_tree.specs.TreeBits.{Rises}
use Rattle.chart_parts.specs.LeafOrder.{ends_of}
pub use Rattle.outline_parts.specs.Marks.{AreMarks}

-- each number as often as the bits say: the next one comes after a one
unfoldable pub spread : List Bool → List ℕ → List ℕ
spread [] codes = []
spread (bit ∷ bits) [] = []
spread (true ∷ bits) (code ∷ codes) = code ∷ spread bits codes
spread (false ∷ bits) (code ∷ codes) = code ∷ spread bits (code ∷ codes)

-- the bits after the first
behind-last : (bit next : Bool) (bits : List Bool) → slice_get (bit ∷ next ∷ bits) (length (bit ∷ next ∷ bits) - 1) ≡ Some true →
    slice_get (next ∷ bits) (length (next ∷ bits) - 1) ≡ Some true
behind-last bit next bits last =
    let back : length (bit ∷ next ∷ bits) - 1 ≡ suc (length (next ∷ bits) - 1) = omega arith in rw back at last

marks-true : (bits : List Bool) (code : ℕ) (codes : List ℕ) → AreMarks (true ∷ bits) (code ∷ codes) → AreMarks bits codes
marks-true [] code codes are = record {
  last = λ some. absurd (omega arith);
  many = omega (arith, are.many, ones_of-cons true [], ones_of-nil);
}
marks-true (bit ∷ bits) code codes are = record {
  last = λ some. behind-last true bit bits (are.last (omega arith));
  many = omega (arith, are.many, ones_of-cons true (bit ∷ bits));
}

marks-false : (bits : List Bool) (codes : List ℕ) → AreMarks (false ∷ bits) codes → AreMarks bits codes
marks-false [] codes are =
    let last : Some false ≡ Some true = are.last (omega arith) in absurd (cc)
marks-false (bit ∷ bits) codes are = record {
  last = λ some. behind-last false bit bits (are.last (omega arith));
  many = omega (arith, are.many, ones_of-cons false (bit ∷ bits));
}

-- where there is a bit, there is a number
marks-some : (bits : List Bool) → AreMarks bits [] → length bits ≡ 0
marks-some [] are = refl
marks-some (true ∷ bits) are = absurd (omega (arith, are.many, ones_of-cons true bits))
marks-some (false ∷ []) are = let last : Some false ≡ Some true = are.last (omega arith) in absurd (cc)
marks-some (false ∷ bit ∷ bits) are = absurd (omega (arith, marks-some (bit ∷ bits) (marks-false (bit ∷ bits) [] are)))

-- there is a number for each bit
pub length-spread : (bits : List Bool) (codes : List ℕ) → AreMarks bits codes → length (spread bits codes) ≡ length bits
unfolding spread
length-spread [] codes are = refl
length-spread (bit ∷ bits) [] are = absurd (omega (arith, marks-some (bit ∷ bits) are))
length-spread (true ∷ bits) (code ∷ codes) are = ap suc (length-spread bits codes (marks-true bits code codes are))
length-spread (false ∷ bits) (code ∷ codes) are =
    ap suc (length-spread bits (code ∷ codes) (marks-false bits (code ∷ codes) are))

-- it is the one whose place is the bit's rank
pub spread-at : (bits : List Bool) (codes : List ℕ) (p : ℕ) → AreMarks bits codes → p < length bits →
    slice_index (spread bits codes) p ≡ slice_index codes (rank_of bits p)
unfolding spread
spread-at [] codes p are within = absurd (omega arith)
spread-at (bit ∷ bits) [] p are within = absurd (omega (arith, marks-some (bit ∷ bits) are))
spread-at (true ∷ bits) (code ∷ codes) zero are within = rw (rank_of-zero (true ∷ bits)) refl
spread-at (false ∷ bits) (code ∷ codes) zero are within = rw (rank_of-zero (false ∷ bits)) refl
spread-at (true ∷ bits) (code ∷ codes) (suc p) are within =
    let one : 1 + rank_of bits p ≡ suc (rank_of bits p) = omega arith in
    rw (rank_of-cons true bits p, one) (spread-at bits codes p (marks-true bits code codes are) (omega arith))
spread-at (false ∷ bits) (code ∷ codes) (suc p) are within =
    let none : 0 + rank_of bits p ≡ rank_of bits p = omega arith in
    rw (rank_of-cons false bits p, none)
    (spread-at bits (code ∷ codes) p (marks-false bits (code ∷ codes) are) (omega arith))

-- the ends of the numbers are the bits
pub ends_of-spread : (n : ℕ) (bits : List Bool) (codes : List ℕ) → AreMarks bits codes → Rises n codes →
    ends_of (spread bits codes) ≡ bits
unfolding spread ends_of
ends_of-spread n [] codes are up = refl
ends_of-spread n (bit ∷ bits) [] are up = absurd (omega (arith, marks-some (bit ∷ bits) are))
ends_of-spread n (true ∷ []) (code ∷ codes) are up = refl
ends_of-spread n (false ∷ []) (code ∷ codes) are up =
    let last : Some false ≡ Some true = are.last (omega arith) in absurd (cc)
ends_of-spread n (true ∷ bit ∷ bits) (code ∷ []) are up =
    absurd (omega (arith, marks-some (bit ∷ bits) (marks-true (bit ∷ bits) code [] are)))
ends_of-spread n (true ∷ true ∷ bits) (code ∷ next ∷ codes) are up =
    let above : suc code ≤ next = up.1.0 in
    let apart : (code == next) ≡ false = ne_eqb code next (λ e. omega arith) in
    let rest = ends_of-spread (suc code) (true ∷ bits) (next ∷ codes) (marks-true (true ∷ bits) code (next ∷ codes) are) up.1 in
    rw apart (ap (λ all. true ∷ all) rest)
ends_of-spread n (true ∷ false ∷ bits) (code ∷ next ∷ codes) are up =
    let above : suc code ≤ next = up.1.0 in
    let apart : (code == next) ≡ false = ne_eqb code next (λ e. omega arith) in
    let rest = ends_of-spread (suc code) (false ∷ bits) (next ∷ codes) (marks-true (false ∷ bits) code (next ∷ codes) are) up.1 in
    rw apart (ap (λ all. true ∷ all) rest)
ends_of-spread n (false ∷ true ∷ bits) (code ∷ codes) are up =
    let alike : (code == code) ≡ true = eq-eqb code code refl in
    let rest = ends_of-spread n (true ∷ bits) (code ∷ codes) (marks-false (true ∷ bits) (code ∷ codes) are) up in
    rw alike (ap (λ all. false ∷ all) rest)
ends_of-spread n (false ∷ false ∷ bits) (code ∷ codes) are up =
    let alike : (code == code) ≡ true = eq-eqb code code refl in
    let rest = ends_of-spread n (false ∷ bits) (code ∷ codes) (marks-false (false ∷ bits) (code ∷ codes) are) up in
    rw alike (ap (λ all. false ∷ all) rest)

-- numbers without those that are the same as the one before
abbrev once : List ℕ → List ℕ
once = dedup (λ a b. a == b)

-- after a number those that follow it, each once, and those that go on with it
once-after : (bits : List Bool) (code : ℕ) (codes : List ℕ) → Rises (suc code) codes →
    (AreMarks bits codes → dedup_from (λ a b. a == b) code (spread bits codes) ≡ code ∷ codes)
    × (AreMarks bits (code ∷ codes) → dedup_from (λ a b. a == b) code (spread bits (code ∷ codes)) ≡ code ∷ codes)
unfolding spread
once-after [] code [] up = (λ are. refl, λ are. absurd (omega (arith, are.many, ones_of-nil)))
once-after [] code (next ∷ codes) up =
    (λ are. absurd (omega (arith, are.many, ones_of-nil)), λ are. absurd (omega (arith, are.many, ones_of-nil)))
once-after (true ∷ bits) code [] up =
    let alike : (code == code) ≡ true = eq-eqb code code refl in (
      λ are. absurd (omega (arith, marks-some (true ∷ bits) are)),
      λ are. rw alike ((once-after bits code [] up).0 (marks-true bits code [] are)),
    )
once-after (false ∷ bits) code [] up =
    let alike : (code == code) ≡ true = eq-eqb code code refl in (
      λ are. absurd (omega (arith, marks-some (false ∷ bits) are)),
      λ are. rw alike ((once-after bits code [] up).1 (marks-false bits (code ∷ []) are)),
    )
once-after (true ∷ bits) code (next ∷ codes) up =
    let above : suc code ≤ next = up.0 in
    let apart : (next == code) ≡ false = ne_eqb next code (λ e. omega arith) in
    let alike : (code == code) ≡ true = eq-eqb code code refl in (
      λ are. rw apart (ap (λ all. code ∷ all) ((once-after bits next codes up.1).0 (marks-true bits next codes are))),
      λ are. rw alike ((once-after bits code (next ∷ codes) up).0 (marks-true bits code (next ∷ codes) are)),
    )
once-after (false ∷ bits) code (next ∷ codes) up =
    let above : suc code ≤ next = up.0 in
    let apart : (next == code) ≡ false = ne_eqb next code (λ e. omega arith) in
    let alike : (code == code) ≡ true = eq-eqb code code refl in (
      λ are. rw apart (ap (λ all. code ∷ all) ((once-after bits next codes up.1).1 (marks-false bits (next ∷ codes) are))),
      λ are. rw alike ((once-after bits code (next ∷ codes) up).1 (marks-false bits (code ∷ next ∷ codes) are)),
    )

-- each number once is the numbers
pub once-spread : (n : ℕ) (bits : List Bool) (codes : List ℕ) → AreMarks bits codes → Rises n codes →
    once (spread bits codes) ≡ codes
unfolding spread
once-spread n [] [] are up = refl
once-spread n [] (code ∷ codes) are up = absurd (omega (arith, are.many, ones_of-nil))
once-spread n (bit ∷ bits) [] are up = absurd (omega (arith, marks-some (bit ∷ bits) are))
once-spread n (true ∷ bits) (code ∷ codes) are up =
    (once-after bits code codes up.1).0 (marks-true bits code codes are)
once-spread n (false ∷ bits) (code ∷ codes) are up =
    (once-after bits code codes up.1).1 (marks-false bits (code ∷ codes) are)

-- each bit has a number
pub rank-within : (bits : List Bool) (codes : List ℕ) (p : ℕ) → AreMarks bits codes → p < length bits →
    rank_of bits p < length codes
rank-within [] codes p are within = absurd (omega arith)
rank-within (bit ∷ bits) [] p are within = absurd (omega (arith, marks-some (bit ∷ bits) are))
rank-within (bit ∷ bits) (code ∷ codes) zero are within = rw (rank_of-zero (bit ∷ bits)) (omega arith)
rank-within (true ∷ bits) (code ∷ codes) (suc p) are within =
    omega (arith, rank_of-cons true bits p, rank-within bits codes p (marks-true bits code codes are) (omega arith))
rank-within (false ∷ bits) (code ∷ codes) (suc p) are within =
    omega (arith, rank_of-cons false bits p, rank-within bits (code ∷ codes) p (marks-false bits (code ∷ codes) are) (omega arith))
