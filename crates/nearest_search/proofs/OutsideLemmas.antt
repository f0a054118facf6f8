-- Where nothing is searched: none is asked for, the instant is outside the index, or its period has no block.
use Rattle.std.proofs.Common.{◌≡◌, ℕ, zero, suc, ◌<◌, ℤ, List, [], length, None, Some, refl, sym, ◌∙◌, ap, arith}
use Rattle.std.specs.Prelude.{nat_lt}
use Rattle.std.specs.List.{filter_map}
use Rattle.std.proofs.lemmas.Bool.Decides.{nat_tests}
use Rattle.std.proofs.lemmas.List.{nil_from_length}
use Rattle.list_laws.specs.Ordered.{ordered}
use Rattle.list_laws.proofs.MemberLemmas.{filter-none}
use Rattle.track_types.specs.ByFilter.{count_before, near_order, nearest_among, nears_at, nears_of}
use Rattle.track_types.specs.Frame.{periods_of}
use Rattle.track_types.specs.declared.cell.Cell.{Cell}
use Rattle.track_types.specs.declared.near.Near.{Near}
use Rattle.track_types.specs.declared.parts.Parts.{Parts}
use Rattle.track_types.specs.declared.row.Row.{Row}
use Rattle.snapshots.specs.Parts.{chart_in, period_in, snapshot_in}
use Rattle.snapshots.specs.SoundParts.{IsValid}
use Rattle.snapshots.specs.Tracks.{blocks_by_leaf}
use Rattle.snapshots.specs.View.{all_blocks}
use Rattle.snapshots.proofs.ByObjectLemmas.{length-weighed}
use Rattle.snapshots.proofs.LeafOrderLemmas.{by_leaf-weighs}
use Rattle.snapshots.proofs.ReachLemmas.{IsSnapshot-valid}
use Rattle.object_track.proofs.InstantLemmas.{rows_at-outside}
use Rattle.nearest_search.specs.Cost.{nearest_cost, nearest_cost_in, period_near_cost}
use Rattle.nearest_search.specs.Found.{near_in}
use Rattle.nearest_search.proofs.FoundLemmas.{nears_at-blocks}

-- none is among none
among-none : (nears : List Near) → nearest_among 0 nears ≡ []
unfolding nearest_among ordered
among-none nears =
    ap (ordered near_order) (filter-none (λ near. nat_lt (count_before nears near) 0) nears
    (λ near inside. grind (arith, nat_tests)))

among-nothing : (count : ℕ) (nears : List Near) → nears ≡ [] → nearest_among count nears ≡ []
unfolding nearest_among ordered
among-nothing count nears none = ap (nearest_among count) none

pub nears-unasked : (rows : List Row) (count : ℕ) (instant : ℤ) (cell : Cell) → count ≡ 0
    → [] ≡ nears_of rows count instant cell
unfolding nears_of
nears-unasked rows count instant cell none =
    sym (ap (λ n. nearest_among n (nears_at rows instant cell)) none ∙ among-none (nears_at rows instant cell))

module _ (parts : Parts) (valid : IsValid parts) (count : ℕ) (instant : ℤ) (cell : Cell) where
  pub nears-outside : period_in parts.frame instant ≡ None → [] ≡ nears_of (chart_in parts).rows count instant cell
  unfolding nears_of nearest_among nears_at ordered
  nears-outside when = rw (rows_at-outside parts valid instant when) refl

  pub nears-blockless : (number : ℕ) → number < periods_of parts.frame → period_in parts.frame instant ≡ Some number
      → blocks_by_leaf (snapshot_in parts number) ≡ [] → [] ≡ nears_of (chart_in parts).rows count instant cell
  unfolding nears_of
  nears-blockless number within when none =
      let same = length-weighed (blocks_by_leaf (snapshot_in parts number)) (all_blocks (snapshot_in parts number))
      (by_leaf-weighs (snapshot_in parts number) (IsSnapshot-valid parts valid number within)) in
      let empty : all_blocks (snapshot_in parts number) ≡ [] =
      nil_from_length (all_blocks (snapshot_in parts number)) (omega (arith, same, ap length none)) in
      sym (among-nothing count (nears_at (chart_in parts).rows instant cell)
      (nears_at-blocks parts valid number within instant cell when
      ∙ ap (filter_map (near_in parts number instant cell)) empty))

  -- where so many are asked for at an instant of a period, they cost what the period does
  pub cost-some : (number : ℕ) → 0 < count → period_in parts.frame instant ≡ Some number
      → period_near_cost parts count number instant cell ≡ nearest_cost parts count instant cell
  unfolding nearest_cost
  cost-some number some when = by_count count some ∙ sym (ap (nearest_cost_in parts count instant cell) when)
    where
      by_count : (n : ℕ) → 0 < n → period_near_cost parts n number instant cell ≡ nearest_cost_in parts n instant cell (Some number)
      by_count zero some = absurd (omega (arith, some))
      by_count (suc n) some = refl
