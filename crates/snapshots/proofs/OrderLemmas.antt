-- Offsets, and the objects of a cell: the first one that is not in order.
use Rattle.std.proofs.Common.{◌≡◌, ℕ, ◌+◌, ◌-◌, ◌<◌, ◌≤◌, Bool, true, false, leb, List, length, get_or, None}
use Rattle.std.proofs.Common.{Some, inl, inr, ap, ◌∙◌, arith}
use Rattle.std.specs.Prelude.{slice_get, not}
use Rattle.std.proofs.lemmas.Bool.{cases_lt, le-leb, lt-leb, and_from, and_left, and_right, not_from_true}
use Rattle.std.proofs.lemmas.Bool.{not_from_false}
use Rattle.std.proofs.lemmas.Option.{get_or_from_slice_get}
use Rattle.snapshots.specs.Flaws.{offset_flaw, is_disordered, order_flaw}
use Rattle.list_laws.proofs.FindLemmas.{find_in_range-first, find_in_range-none}

-- an offset that is not below the instants, after others that are
pub offset_flaw-at : (instants : ℕ) (offsets : List ℕ) (place : ℕ) → place < length offsets
    → ((j : ℕ) → j < place → leb instants (get_or offsets j 0) ≡ false) → instants ≤ get_or offsets place 0
    → offset_flaw instants offsets ≡ Some place
offset_flaw-at instants offsets place within before here =
    find_in_range-first (λ i. leb instants (get_or offsets i 0)) 0 (length offsets) place (omega arith) (omega arith)
    (λ j above below. before j below) (le-leb instants (get_or offsets place 0) here)

-- all offsets are below the instants
pub offset_flaw-none : (instants : ℕ) (offsets : List ℕ)
    → ((j : ℕ) → j < length offsets → leb instants (get_or offsets j 0) ≡ false)
    → offset_flaw instants offsets ≡ None
offset_flaw-none instants offsets below =
    find_in_range-none (λ i. leb instants (get_or offsets i 0)) 0 (length offsets) (λ j above within. below j (omega arith))

-- an object that is not greater than the one before it in its cell
pub disordered : (lasts : List Bool) (perm : List ℕ) (place : ℕ) (bit : Bool) → slice_get lasts (place - 1) ≡ Some bit
    → bit ≡ false → get_or perm place 0 ≤ get_or perm (place - 1) 0 → is_disordered lasts perm place ≡ true
disordered lasts perm place bit read is less =
    let here : get_or lasts (place - 1) false ≡ false = get_or_from_slice_get lasts (place - 1) bit false read ∙ is in
    and_from (not (get_or lasts (place - 1) false)) (leb (get_or perm place 0) (get_or perm (place - 1) 0))
    (not_from_false (get_or lasts (place - 1) false) here)
    (le-leb (get_or perm place 0) (get_or perm (place - 1) 0) less)

-- the first object of a cell
pub ordered-first : (lasts : List Bool) (perm : List ℕ) (place : ℕ) (bit : Bool)
    → slice_get lasts (place - 1) ≡ Some bit → bit ≡ true → is_disordered lasts perm place ≡ false
ordered-first lasts perm place bit read is =
    let here : get_or lasts (place - 1) false ≡ true = get_or_from_slice_get lasts (place - 1) bit false read ∙ is in
    and_left (not (get_or lasts (place - 1) false)) (leb (get_or perm place 0) (get_or perm (place - 1) 0))
    (not_from_true (get_or lasts (place - 1) false) here)

-- an object that is greater than the one before it
pub ordered-greater : (lasts : List Bool) (perm : List ℕ) (place : ℕ) → get_or perm (place - 1) 0 < get_or perm place 0
    → is_disordered lasts perm place ≡ false
ordered-greater lasts perm place less =
    and_right (not (get_or lasts (place - 1) false)) (leb (get_or perm place 0) (get_or perm (place - 1) 0))
    (lt-leb (get_or perm place 0) (get_or perm (place - 1) 0) less)

-- one place more
pub ordered-more : (lasts : List Bool) (perm : List ℕ) (place : ℕ)
    → ((j : ℕ) → 1 ≤ j → j < place → is_disordered lasts perm j ≡ false) → is_disordered lasts perm place ≡ false
    → (j : ℕ) → 1 ≤ j → j < place + 1 → is_disordered lasts perm j ≡ false
ordered-more lasts perm place before here j some within = elim (cases_lt j place) [
  | inl less ↦ before j some less
  | inr most ↦ let same : j ≡ place = omega arith in ap (is_disordered lasts perm) same ∙ here
]

-- the first place that is not in order
pub order_flaw-at : (lasts : List Bool) (perm : List ℕ) (place : ℕ) → 1 ≤ place → place < length perm
    → ((j : ℕ) → 1 ≤ j → j < place → is_disordered lasts perm j ≡ false) → is_disordered lasts perm place ≡ true
    → order_flaw lasts perm ≡ Some place
order_flaw-at lasts perm place some within before here =
    find_in_range-first (is_disordered lasts perm) 1 (length perm - 1) place some (omega arith) before here

-- all places are in order
pub order_flaw-none : (lasts : List Bool) (perm : List ℕ)
    → ((j : ℕ) → 1 ≤ j → j < length perm → is_disordered lasts perm j ≡ false) → order_flaw lasts perm ≡ None
order_flaw-none lasts perm ordered =
    find_in_range-none (is_disordered lasts perm) 1 (length perm - 1) (λ j above within. ordered j above (omega arith))
