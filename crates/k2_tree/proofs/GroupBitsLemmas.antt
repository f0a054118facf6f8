-- Groups as numbers: a bit that is set, a group above others, and the words at the end.
use Rattle.std.proofs.Common.{◌≡◌, ℕ, zero, suc, ◌+◌, ◌-◌, ◌*◌, ◌/◌, ◌%◌, ◌^◌, ◌<◌, ◌≤◌, Bool, true, false, List, [], ◌∷◌, ◌++◌, length, take, drop, replicate, refl, sym, ap, ◌∙◌, subst, arith, length-append, append-nil, append_assoc, lit<}
use Rattle.std.proofs.Math.ListN.{set}
use Rattle.std.proofs.Math.Nat.{pow-suc, mod-eq_of_lt, pow-le-pow_right, mul-le-mul_right}
use Rattle.std.specs.Int.Bits.{bit_or, or_step, or_zero_r}
use Rattle.std.proofs.lemmas.Nat.{mod-pow-add, pow-add, pow_pos, shl_whole, shr_high, mod_low}
use Rattle.std.proofs.lemmas.List.{take_at, drop_at, set-append_right}
use Rattle.packed_bits.specs.Bits.{number_of, ones_of}
use Rattle.packed_bits.specs.Words.{low_bits, bits_of, IsPacked}
use Rattle.packed_bits.proofs.NumberLemmas.{number_of-append, ones_of-zero, same_from_number_of}
use Rattle.packed_bits.proofs.WordLemmas.{length-low_bits, number_of-low_bits, bits_of-append, length-bits_of}
use Rattle.k2_tree.specs.Widths.{fan_of}
use Rattle.k2_tree.specs.Building.{IsLast}

-- no bits
pub no_groups : (word : ℕ) → bits_of [] ++ low_bits 0 word ≡ []
unfolding low_bits bits_of
no_groups word = refl

-- zeros
pub low_bits-zero : (n : ℕ) → low_bits n 0 ≡ replicate n false
unfolding low_bits
low_bits-zero zero = refl
low_bits-zero (suc n) = let half : 0 / 2 ≡ 0 = refl in rw (half, low_bits-zero n) refl

-- a bit that is set in a number
pub low_bits-set : (n d word : ℕ) → d < n → low_bits n (bit_or word (2 ^ d)) ≡ set (low_bits n word) d true
unfolding low_bits
low_bits-set zero d word within = absurd (omega arith)
low_bits-set (suc n) zero word within =
    let step = or_step word (2 ^ 0) in
    let rest : bit_or (word / 2) (2 ^ 0 / 2) ≡ word / 2 = or_zero_r (word / 2) in
    let odd : bit_or word (2 ^ 0) % 2 ≡ 1 = omega (arith, step) in
    let half : bit_or word (2 ^ 0) / 2 ≡ word / 2 = omega (arith, step, rest) in
    rw (odd, half) refl
low_bits-set (suc n) (suc d) word within =
    let twice = pow-suc 2 d in
    let step = or_step word (2 ^ suc d) in
    let halved : 2 ^ suc d / 2 ≡ 2 ^ d = omega (arith, twice) in
    let even : 2 ^ suc d % 2 ≡ 0 = omega (arith, twice) in
    let rest = ap (bit_or (word / 2)) halved in
    let low : bit_or word (2 ^ suc d) % 2 ≡ word % 2 = omega (arith, step, even) in
    let high : bit_or word (2 ^ suc d) / 2 ≡ bit_or (word / 2) (2 ^ d) = omega (arith, step, rest, even) in
    rw (low, high, low_bits-set n d (word / 2) (omega arith)) refl

-- bits are those of their number
low_bits-number_of : (n number : ℕ) (bits : List Bool) → length bits ≡ n → number % 2 ^ n ≡ number_of bits
    → low_bits n number ≡ bits
low_bits-number_of n number bits long same =
    same_from_number_of (low_bits n number) bits (length-low_bits n number ∙ sym long) (number_of-low_bits n number ∙ same)

-- a group above the bits of a word
pub low_bits-above : (m n low high : ℕ) → low < 2 ^ m → low_bits (m + n) (low + high * 2 ^ m) ≡ low_bits m low ++ low_bits n high
low_bits-above m n low high small =
    let front = low_bits m low in
    let behind = low_bits n high in
    let number = high * 2 ^ m + low in
    let turned : low + high * 2 ^ m ≡ number = omega arith in
    let width : m + n ≡ n + m = omega arith in
    let split = ap (λ k. number % 2 ^ k) width ∙ mod-pow-add number n m in
    let spelt = number_of-append front behind in
    ap (low_bits (m + n)) turned
    ∙ low_bits-number_of (m + n) number (front ++ behind)
    (omega (arith, length-append front behind, length-low_bits m low, length-low_bits n high))
    (split ∙ rw (shr_high high m low small, mod_low high m low small) (sym (spelt
    ∙ rw (length-low_bits m low, number_of-low_bits n high, number_of-low_bits m low, mod-eq_of_lt small) refl)))

-- how many bits there are
pub length-groups : (words : List ℕ) (filled last : ℕ) → length (bits_of words ++ low_bits filled last) ≡ 64 * length words + filled
length-groups words filled last =
    omega (arith, length-append (bits_of words) (low_bits filled last), length-bits_of words, length-low_bits filled last)

-- groups of four or sixteen end with a word
pub group_fits : (w n : ℕ) → w ≤ 2 → n % fan_of w ≡ 0 → n % 64 + fan_of w ≤ 64
group_fits zero n narrow whole = omega arith
group_fits (suc zero) n narrow whole = omega (arith, whole)
group_fits (suc (suc zero)) n narrow whole = omega (arith, whole)
group_fits (suc (suc (suc w))) n narrow whole = absurd (omega arith)

-- and one more is as whole
pub groups_more : (w n m : ℕ) → w ≤ 2 → n % fan_of w ≡ 0 → (n + fan_of w * m) % fan_of w ≡ 0
groups_more zero n m narrow whole = omega arith
groups_more (suc zero) n m narrow whole = omega (arith, whole)
groups_more (suc (suc zero)) n m narrow whole = omega (arith, whole)
groups_more (suc (suc (suc w))) n m narrow whole = absurd (omega arith)

-- a group above the bits of a word is a number of as many bits
pub group-small : (fan group filled last : ℕ) → group < 2 ^ fan → last < 2 ^ filled → last + group * 2 ^ filled < 2 ^ (filled + fan)
group-small fan group filled last small low =
    let most : suc group * 2 ^ filled ≤ 2 ^ fan * 2 ^ filled = mul-le-mul_right (2 ^ filled) small in
    omega (arith, most, low, pow-add 2 filled fan)

-- a place in a group is a number below the group's bound
pub place-small : (d fan : ℕ) → d < fan → 2 ^ d < 2 ^ fan
place-small d fan within =
    let most : 2 ^ suc d ≤ 2 ^ fan = pow-le-pow_right {n = 2} (lit< tt) within in
    omega (arith, most, pow-suc 2 d, pow_pos d)

-- the bits of one word
one : (word : ℕ) → bits_of (word ∷ []) ≡ low_bits 64 word
unfolding bits_of
one word = append-nil (low_bits 64 word)

nothing : (word : ℕ) → low_bits 0 word ≡ []
unfolding low_bits
nothing word = refl

-- a full word more
pub words-more : (words : List ℕ) (last filled : ℕ) → filled ≡ 64 → bits_of (words ++ last ∷ []) ≡ bits_of words ++ low_bits filled last
words-more words last filled full =
    bits_of-append words (last ∷ []) ∙ ap (λ bits. bits_of words ++ bits) (one last)
    ∙ ap (λ n. bits_of words ++ low_bits n last) (sym full)

-- words that hold bits and zeros behind them hold these bits alone
packed_with : (front : List Bool) (r len : ℕ) (words : List ℕ) → bits_of words ≡ front ++ low_bits r 0 → length front ≡ len
    → length words ≡ (len + 63) / 64 → IsPacked words len × (take len (bits_of words) ≡ front)
packed_with front r len words whole long count =
    let zeros = low_bits r 0 in
    let none : number_of zeros ≡ 0 = number_of-low_bits r 0 ∙ omega arith in
    let behind = ap (drop len) whole ∙ drop_at front zeros len long in (
      record { fewest = count; spare = ap ones_of behind ∙ ones_of-zero zeros none },
      ap (take len) whole ∙ take_at front zeros len long,
    )

-- where no bits are behind the words, these hold all
pub packed-whole : (words all : List ℕ) (last filled : ℕ) → filled ≡ 0 → all ≡ words → let len = 64 * length words + filled in
    IsPacked all len × (take len (bits_of all) ≡ bits_of words ++ low_bits filled last)
packed-whole words all last filled none are =
    let front = bits_of words ++ low_bits filled last in
    let empty = ap (λ n. low_bits n last) none ∙ nothing last in
    let whole : bits_of words ≡ front ++ low_bits 0 0 =
    sym (ap (λ bits. front ++ bits) (nothing 0) ∙ append-nil front ∙ ap (λ bits. bits_of words ++ bits) empty
    ∙ append-nil (bits_of words)) in
    packed_with front 0 (64 * length words + filled) all (ap bits_of are ∙ whole) (length-groups words filled last)
    (omega (arith, none, ap length are))

-- where some are, they stand in one word more
pub packed-more : (words all : List ℕ) (last filled : ℕ) → IsLast last filled → 0 < filled → all ≡ words ++ last ∷ []
    → let len = 64 * length words + filled in
    IsPacked all len × (take len (bits_of all) ≡ bits_of words ++ low_bits filled last)
packed-more words all last filled is some are =
    let front = bits_of words ++ low_bits filled last in
    let r = 64 - filled in
    let width : filled + r ≡ 64 = omega (arith, is.within) in
    let none : last + 0 * 2 ^ filled ≡ last = omega arith in
    let parts : low_bits 64 last ≡ low_bits filled last ++ low_bits r 0 =
    ap (λ n. low_bits n last) (sym width) ∙ ap (low_bits (filled + r)) (sym none) ∙ low_bits-above filled r last 0 is.small in
    let whole = ap bits_of are ∙ words-more words last 64 refl ∙ ap (λ bits. bits_of words ++ bits) parts
    ∙ sym (append_assoc (bits_of words) (low_bits filled last) (low_bits r 0)) in
    let count : length all ≡ (64 * length words + filled + 63) / 64 =
    omega (arith, ap length are, length-append words (last ∷ []), is.within) in
    packed_with front r (64 * length words + filled) all whole (length-groups words filled last) count

-- the last group, in which a bit is set
pub marked : (done : List Bool) (fan d group : ℕ) → d < fan → let all = done ++ low_bits fan group in
    set all (length all - fan + d) true ≡ done ++ low_bits fan (bit_or group (2 ^ d))
marked done fan d group within =
    let last = low_bits fan group in
    let all = done ++ last in
    let long : length all ≡ length done + fan = length-append done last ∙ ap (λ n. length done + n) (length-low_bits fan group) in
    let place : length all - fan + d - length done ≡ d = omega (arith, long) in
    set-append_right done last (length done) (length all - fan + d) true refl (omega (arith, long))
    ∙ ap (λ i. done ++ set last i true) place ∙ ap (λ bits. done ++ bits) (sym (low_bits-set fan d group within))

-- a group goes into a word that is not full
pub record HasRoom (filled last fan group : ℕ) : Type 0 where
  pub room : filled + fan ≤ 64
  pub whole : group * 2 ^ filled % 2 ^ 64 ≡ group * 2 ^ filled
  pub small : last + group * 2 ^ filled % 2 ^ 64 < 2 ^ (filled + fan)
  pub fits : last + group * 2 ^ filled % 2 ^ 64 < 2 ^ 64

pub has_room : (words : List ℕ) (filled last fan group : ℕ) (bits : List Bool) → bits_of words ++ low_bits filled last ≡ bits
    → IsLast last filled → length bits % 64 + fan ≤ 64 → (filled ≡ 64 → ⊥) → group < 2 ^ fan → HasRoom filled last fan group
has_room words filled last fan group bits are is fits free small =
    let long = sym (ap length are) ∙ length-groups words filled last in
    let room : filled + fan ≤ 64 = omega (arith, long, fits, is.within, free) in
    let whole = shl_whole group fan filled 64 small (omega (arith, room)) in
    let low = subst (λ n. last + n < 2 ^ (filled + fan)) (sym whole) (group-small fan group filled last small is.small) in
    let most : 2 ^ (filled + fan) ≤ 2 ^ 64 = pow-le-pow_right {n = 2} (lit< tt) {i = filled + fan} {j = 64} room in
    record { room = room; whole = whole; small = low; fits = omega (arith, most, low) }
