-- Ones counted part by part, and the squares that they split in sixteen level by level.
use Rattle.std.proofs.Common.{◌≡◌, ℕ, suc, ◌+◌, ◌-◌, ◌*◌, ◌<◌, ◌≤◌, Bool, List, length, take, drop}
use Rattle.std.proofs.Common.{sym, ap, ◌∙◌, inl, inr, arith, length-drop, length-take}
use Rattle.std.proofs.Math.Seq.{take-add}
use Rattle.std.proofs.lemmas.Bool.{cases_lt}
use Rattle.std.proofs.lemmas.List.{drop-drop, drop_all, take_all}
use Rattle.packed_bits.specs.Bits.{ones_of}
use Rattle.packed_bits.proofs.OnesLemmas.{ones_of-le-length}
use Rattle.bit_rank.proofs.RankLemmas.{ones_of-append}
use Rattle.k2_tree.specs.Groups.{upper_in}

-- the ones of so many bits more
pub ones_of-part : (bits : List Bool) (from place size : ℕ) → from ≤ place
    → ones_of (take (place + size - from) (drop from bits))
    ≡ ones_of (take (place - from) (drop from bits)) + ones_of (take size (drop place bits))
ones_of-part bits from place size after =
    let more : place + size - from ≡ place - from + size = omega arith in
    let here : from + (place - from) ≡ place = omega arith in
    let rest : drop (place - from) (drop from bits) ≡ drop place bits =
    drop-drop (place - from) from bits ∙ ap (λ n. drop n bits) here in
    rw (more, ← rest) (ap ones_of (take-add (place - from) size (drop from bits))
    ∙ ones_of-append (take (place - from) (drop from bits)) (take size (drop (place - from) (drop from bits))))

-- what is taken and what is left where so many bits are counted, or all where there are fewer
cut : (bits : List Bool) (size wanted : ℕ) → (wanted ≤ length bits → size ≡ wanted)
    → (length bits ≤ wanted → size ≡ length bits) → (take wanted bits ≡ take size bits) × (drop wanted bits ≡ drop size bits)
cut bits size wanted whole short = elim (cases_lt wanted (length bits)) [
  | inl inside ↦
      let same : wanted ≡ size = sym (whole (omega arith)) in
      (ap (λ n. take n bits) same, ap (λ n. drop n bits) same)
  | inr past ↦
      let all : size ≡ length bits = short past in (
        take_all wanted bits past ∙ sym (take_all size bits (omega arith)),
        drop_all wanted bits past ∙ sym (drop_all size bits (omega arith)),
      )
]

-- the upper squares of the first levels, and those that are left
pub record IsCounted (wide : ℕ) (bits : List Bool) (done start groups upper : ℕ) : Type 0 where
  pub within : start ≤ length bits
  pub few : upper + groups ≤ start + 1
  pub all : upper + upper_in (wide - done) groups (drop start bits) ≡ upper_in wide 1 bits

pub counted_starts : (wide : ℕ) (bits : List Bool) → IsCounted wide bits 0 0 1 0
counted_starts wide bits =
    let e : wide - 0 ≡ wide = omega arith in
    record { within = omega arith; few = omega arith; all = rw e (omega arith) }

module _ {wide : ℕ} {bits : List Bool} {done start groups upper : ℕ}
    (counted : IsCounted wide bits done start groups upper) where
  pub counted_goes_on : {size ones : ℕ} → done < wide → size ≤ length bits - start
      → (16 * groups ≤ length bits - start → size ≡ 16 * groups)
      → (length bits - start ≤ 16 * groups → size ≡ length bits - start)
      → ones ≡ ones_of (take size (drop start bits))
      → IsCounted wide bits (done + 1) (start + size) ones (upper + groups)
  unfolding upper_in
  counted_goes_on {size} {ones} more inside whole short is =
      let rest : List Bool = drop start bits in
      let long = length-drop start bits in
      let next : wide - done ≡ suc (wide - (done + 1)) = omega arith in
      let cut = cut rest size (16 * groups) (λ w. whole (omega (arith, long))) (λ s. omega (arith, long, short (omega (arith, long)))) in
      let all : upper + (groups + upper_in (wide - (done + 1)) (ones_of (take (16 * groups) rest)) (drop (16 * groups) rest))
      ≡ upper_in wide 1 bits = rw next at counted.all in
      let left : upper + (groups + upper_in (wide - (done + 1)) ones (drop (start + size) bits)) ≡ upper_in wide 1 bits =
      ap (λ n. upper + (groups + upper_in (wide - (done + 1)) n (drop (start + size) bits)))
      (is ∙ ap ones_of (sym cut.0))
      ∙ ap (λ bs. upper + (groups + upper_in (wide - (done + 1)) (ones_of (take (16 * groups) rest)) bs))
      (sym (cut.1 ∙ drop-drop size start bits)) ∙ all in
      record {
        within = omega (arith, counted.within);
        few = omega (arith, counted.few, is, ones_of-le-length (take size rest), length-take size rest);
        all = omega (arith, left);
      }

  pub counted_ends : done ≡ wide → upper ≡ upper_in wide 1 bits
  unfolding upper_in
  counted_ends end =
      let none : wide - done ≡ 0 = omega arith in
      let all : upper + 0 ≡ upper_in wide 1 bits = rw none at counted.all in
      omega (arith, all)
