-- The definitions, run on small indexes.
use Rattle.std.proofs.Common.{◌≡◌, ℕ, ℤ, pos, negsuc, [], ◌∷◌, None, Some, refl}
use Rattle.list_laws.specs.Ordered.{ordered, insert_in_order}
use Rattle.track_types.specs.Chart.{ChartView, chart_with}
use Rattle.track_types.specs.declared.frame.Frame.{Frame}
use Rattle.track_types.specs.declared.row.Row.{Row}
use Rattle.track_types.specs.declared.setting.Setting.TheVariants as setting
use Rattle.index_merge.specs.MergeFault.{common_fault, settings_fault}
use Rattle.track_types.specs.declared.stop.Stop.{Stop}
use Rattle.track_types.specs.StopWalk.{first_past, up_to}
use Rattle.path_union.specs.Reads.{first_beyond}
use Rattle.path_union.specs.Union.{rows_of_both}
use Rattle.index_merge.specs.Cost.{shares_cost}
use Rattle.index_merge.specs.Union.{extension_of, union_of}
use Rattle.index_merge.specs.declared.fault.MergeFault.TheVariants as fault

row : ℕ → ℤ → ℤ → ℤ → Row
row object instant x y = record { object = object; instant = instant; cell = record { x = x; y = y } }

-- objects 7 and 9, and object 8, which is there before both
abbrev some : ChartView
some = chart_with (row 7 (pos 0) (pos 10) (pos 10) ∷ row 7 (pos 1) (pos 11) (pos 10) ∷ row 9 (pos 0) (pos 4) (pos 4) ∷ []) 2 3 4

abbrev other : ChartView
other = chart_with (row 8 (negsuc 0) (pos 5) (pos 4) ∷ []) 2 3 4

-- the union begins with the first instant of the second chart
union_of_some : union_of some other
    ≡ record {
      rows = row 7 (pos 0) (pos 10) (pos 10) ∷ row 7 (pos 1) (pos 11) (pos 10) ∷ row 8 (negsuc 0) (pos 5) (pos 4) ∷ row 9 (pos 0) (pos 4) (pos 4) ∷ [];
      first = negsuc 0;
      last = pos 1;
      period = 4;
      cell = 2;
      tick = 3;
    }
unfolding rows_of_both ordered insert_in_order row
union_of_some = refl

-- headers with these settings
abbrev header : ℕ → ℕ → ℕ → Frame
header cell tick period = record {
  version = 2;
  first = pos 0;
  span = 1;
  period = period;
  height = 1;
  base = record { x = pos 0; y = pos 0 };
  cell = cell;
  tick = tick;
}

-- of two that differ the first is told
tick_differs : settings_fault (header 1 60 4) (header 1 61 8) ≡ Some (fault.Settings setting.Tick 60 61)
tick_differs = refl

none_differs : settings_fault (header 1 60 4) (header 1 60 4) ≡ None
none_differs = refl

-- a stop of an instant
abbrev stop : ℕ → Stop
stop instant = record { instant = pos instant; cell = record { x = pos 0; y = pos 0 } }

-- the least of two objects that are in both
least_common : common_fault (1 ∷ 3 ∷ 5 ∷ 9 ∷ []) (2 ∷ 3 ∷ 9 ∷ []) ≡ Some (fault.Common 3)
least_common = refl

none_common : common_fault (1 ∷ 3 ∷ []) (2 ∷ 4 ∷ []) ≡ None
none_common = refl

-- object 7 with a later cell at its last instant, and with a row before the first
extension_of_some : extension_of some (row 7 (negsuc 0) (pos 9) (pos 9) ∷ row 7 (pos 1) (pos 12) (pos 10) ∷ [])
    ≡ record {
      rows = row 7 (negsuc 0) (pos 9) (pos 9) ∷ row 7 (pos 0) (pos 10) (pos 10) ∷ row 7 (pos 1) (pos 12) (pos 10) ∷ row 9 (pos 0) (pos 4) (pos 4) ∷ [];
      first = negsuc 0;
      last = pos 1;
      period = 4;
      cell = 2;
      tick = 3;
    }
unfolding rows_of_both ordered insert_in_order row
extension_of_some = refl

-- three paths of ten reads each, and three up to any stop: until a row of object 8 is passed those of 7 and three of 8
shares_to_eight : shares_cost (λ object. 10) (λ object instant. 3) (7 ∷ 8 ∷ 9 ∷ []) (row 8 (pos 5) (pos 0) (pos 0)) ≡ 13
unfolding shares_cost row
shares_to_eight = refl

-- where no path is of the row's object those before it
shares_to_six : shares_cost (λ object. 10) (λ object instant. 3) (5 ∷ 7 ∷ 9 ∷ []) (row 6 (pos 5) (pos 0) (pos 0)) ≡ 10
unfolding shares_cost row
shares_to_six = refl

-- of the union of both charts row 3 is one too many where two may be: it is of object 8
third_of_both : first_beyond 2 (union_of some other).rows ≡ Some (row 8 (negsuc 0) (pos 5) (pos 4))
unfolding rows_of_both ordered insert_in_order row
third_of_both = refl

-- so the paths of the first chart's objects are read until it, and where four may be as a whole
reads_to_third : up_to (shares_cost (λ object. 10) (λ object instant. 3) (7 ∷ 9 ∷ [])) 20 (first_beyond 2 (union_of some other).rows) ≡ 10
unfolding shares_cost rows_of_both ordered insert_in_order row
reads_to_third = refl

reads_of_four : up_to (shares_cost (λ object. 10) (λ object instant. 3) (7 ∷ 9 ∷ [])) 20 (first_beyond 4 (union_of some other).rows) ≡ 20
unfolding shares_cost rows_of_both ordered insert_in_order row
reads_of_four = refl

-- the first stop at 3 or after it
past_three : first_past (pos 3) (stop 1 ∷ stop 4 ∷ stop 6 ∷ []) ≡ Some (stop 4)
past_three = refl

none_past_seven : first_past (pos 7) (stop 1 ∷ stop 4 ∷ stop 6 ∷ []) ≡ None
none_past_seven = refl
