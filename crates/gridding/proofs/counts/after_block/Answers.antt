use Rattle.std.proofs.Common.{◌≡◌, ◌+◌, ◌-◌, ◌≤◌, ◌<◌, ◌≤ℤ◌, ◌<ℤ◌, ◌+ℤ◌, ℕ, suc, zero, pos, List, [], ◌∷◌}
use Rattle.std.proofs.Common.{get_or, length, min, take, true, false, arith, rules, refl, sym, ◌∙◌, ap, inl, inr, eq-eqb}
use Rattle.std.specs.Prelude.{◌==◌}
use Rattle.std.specs.Int.Signed.{lt_z}
use Rattle.std.specs.List.{prefix_len}
use Rattle.std.specs.List.Sorted.{IsPartitionPoint, IsPartitionedBy}
use Rattle.std.proofs.lemmas.Bool.{and_parts, cases_Bool, cases_lt}
use Rattle.std.proofs.lemmas.Bool.Decides.{nat_tests}
use Rattle.std.proofs.lemmas.Int.{ints}
use Rattle.std.proofs.lemmas.List.{get_or-take, length-take}
use Rattle.std.proofs.lemmas.List.Sorted.{IsPartitionPoint-from_clause}
use Rattle.std.proofs.lemmas.List.Sums.{prefix_len_is}
use Rattle.std.proofs.lemmas.Map.Keys.{Less-from_sorted}
use Rattle.list_laws.proofs.SliceLemmas.{take-rest}
use Rattle.track_types.specs.Row.{IsAscending, row_order}
use Rattle.track_types.specs.declared.row.Row.{Row}
use Rattle.track_types.proofs.RowLemmas.{object_le}
use Rattle.gridding.specs.BlockRange.{BeginsBlock, is_of_block}
use Rattle.gridding.specs.declared.counts.BlockRange.{BlockRange}
use Rattle.gridding.proofs.ObjectCountLemmas.{no_row}
use Rattle.gridding.proofs.SymbolLemmas.{order_cases}
use Rattle.gridding.proofs.counts.after_block.Goals as goal

module _ (rows : List Row) (d : Row) (up : IsAscending rows) where
  -- objects do not fall from row to row
  objects_up : (i j : ℕ) → i ≤ j → j < length rows → (get_or rows i d).object ≤ (get_or rows j d).object
  objects_up i j low high = elim (cases_lt i j) [
    | inl before ↦
        object_le (get_or rows i d) (get_or rows j d) (Less-from_sorted row_order rows i j d up before high)
    | inr at ↦ let same : i ≡ j = omega arith in rw same (omega arith)
  ]

  -- in each place more, an object's rows are one instant later or more
  instants_up : (i j k : ℕ) → i + k ≡ j → j < length rows → (get_or rows j d).object ≤ (get_or rows i d).object →
      ((get_or rows i d).instant +ℤ pos k) ≤ℤ (get_or rows j d).instant
  instants_up i j zero places high same = let at : i ≡ j = omega arith in rw at (omega (arith, ints))
  instants_up i j (suc k) places high same =
      let below = objects_up i (i + k) (omega arith) (omega arith) in
      let above = objects_up (i + k) j (omega arith) high in
      let so_far = instants_up i (i + k) k refl (omega arith) (omega arith) in
      elim (order_cases (get_or rows (i + k) d) (get_or rows j d)
      (Less-from_sorted row_order rows (i + k) j d up (omega arith) high)) [
        | inl objects ↦ absurd (omega arith)
        | inr next ↦ let later = next.1 in omega (arith, ints)
      ]

-- the first of rows that begin with a block
first_row : (block : BlockRange) (period : ℕ) (rows : List Row) (d : Row) → BeginsBlock block period rows →
    ((get_or rows 0 d).object ≡ block.object) × (block.end ≤ℤ ((get_or rows 0 d).instant +ℤ pos period))
first_row block period [] d begins = absurd begins
first_row block period (anchor ∷ later) d begins = begins

-- a row that is of a block
is_of_block-parts : (block : BlockRange) (row : Row) → is_of_block block row ≡ true →
    (block.object ≡ row.object) × (row.instant <ℤ block.end)
is_of_block-parts block row is =
    let parts = and_parts (block.object == row.object) (lt_z row.instant block.end) is in
    (grind (arith, nat_tests, parts.0), grind (arith, ints, parts.1))

is_of_block-from_parts : (block : BlockRange) (row : Row) → block.object ≡ row.object → row.instant <ℤ block.end →
    is_of_block block row ≡ true
is_of_block-from_parts block row object before_end =
    let early : lt_z row.instant block.end ≡ true = grind (arith, ints) in
    rw (eq-eqb block.object row.object object) early

module _ (block : BlockRange) (period : ℕ) (rows : List Row) (up : IsAscending rows)
    (begins : BeginsBlock block period rows) where
  -- a row before one of the block is of the block
  before_in_block : (i j : ℕ) (d : Row) → i ≤ j → j < length rows → is_of_block block (get_or rows j d) ≡ true →
      is_of_block block (get_or rows i d) ≡ true
  before_in_block i j d low high is =
      let later = is_of_block-parts block (get_or rows j d) is in
      let start = first_row block period rows d begins in
      let below = objects_up rows d up 0 i (omega arith) (omega arith) in
      let above = objects_up rows d up i j low high in
      let instants = instants_up rows d up i j (j - i) (omega arith) high (omega arith) in
      is_of_block-from_parts block (get_or rows i d) (omega arith) (omega (arith, ints))

  -- the row after as many instants as the period has is not of the block
  past_period : (d : Row) → period < length rows → is_of_block block (get_or rows period d) ≡ false
  past_period d high = elim (cases_Bool (is_of_block block (get_or rows period d))) [
    | inl is ↦
        let later = is_of_block-parts block (get_or rows period d) is in
        let start = first_row block period rows d begins in
        let instants = instants_up rows d up 0 period period (omega arith) high (omega arith) in
        absurd (omega (arith, ints))
    | inr other ↦ other
  ]

  -- what the search asks
  IsPartitionedBy-block : (most : ℕ) → IsPartitionedBy (is_of_block block) (take most rows)
  IsPartitionedBy-block most i j d low high is =
      let within = rw (length-take most rows) at high in
      rw (get_or-take most rows i d (omega arith))
      (before_in_block i j d low (omega arith) (rw (get_or-take most rows j d (omega arith)) at is))

  -- what it finds is where the block's rows end
  prefix_len-block : (most i : ℕ) → most ≡ min (length rows) period → i ≤ length (take most rows) →
      IsPartitionPoint (λ y. is_of_block block y ≡ true) (λ y. is_of_block block y ≡ false) (take most rows) i →
      prefix_len (is_of_block block) rows ≡ i
  prefix_len-block most i least within point =
      let long = length-take most rows in
      prefix_len_is (is_of_block block) rows i no_row (omega arith)
      (λ k below. ap (is_of_block block) (sym (get_or-take most rows k no_row (omega arith)))
      ∙ point.0 k no_row (omega arith) below)
      (λ below. elim (cases_lt i most) [
        | inl before ↦ ap (is_of_block block) (sym (get_or-take most rows i no_row before))
            ∙ point.1 i no_row (omega arith) (omega arith)
        | inr after ↦ let at : i ≡ period = omega arith in rw at (past_period no_row (omega arith))
      ])

pub returns : goal.returns
returns c =
    let z = c.args.rows.now in
    let up = c.requires.ascending in
    let begins = c.requires.begins in
    let point =
    IsPartitionPoint-from_clause (is_of_block c.args.block) _ _ c.partition_point-length.ensures.partitioned
    (IsPartitionedBy-block c.args.block c.args.period z up begins c.min-most.result) (λ a r q k. search rules) in
    let block_length =
    prefix_len-block c.args.block c.args.period z up begins c.min-most.result
    c.partition_point-length.result c.min-most.ensures c.partition_point-length.ensures.bound point in
    rw block_length (take-rest c.partition_point-length.result z)
