-- The definitions, run on two small charts.
use Rattle.std.proofs.Common.{◌≡◌, ℕ, ℤ, pos, neg_ℤ, [], ◌∷◌, refl}
use Rattle.track_types.specs.Chart.{ChartView, chart_with}
use Rattle.track_types.specs.Quantities.{anchors_of, distinct}
use Rattle.track_types.specs.declared.row.Row.{Row}
use Rattle.spiral_code.specs.Spiral.{code_of}
use Rattle.movement_log.specs.Values.{value_at}
use Rattle.movement_log.specs.Logs.{alphabet_of, ascending_of, block_anchors, logged_values, logs_of}

abbrev row : ℕ → ℤ → ℤ → ℤ → Row
row object instant x y = record { object = object; instant = instant; cell = record { x = x; y = y } }

-- one object, which moves to the right and then up to the right
abbrev path : ChartView
path = chart_with (row 7 (pos 0) (pos 10) (pos 10) ∷ row 7 (pos 1) (pos 11) (pos 10) ∷ row 7 (pos 2) (pos 12)
    (pos 11) ∷ [])
    1 1 4

path_logs : logs_of path ≡ record {
  alphabet = 2 ∷ 3 ∷ [];
  heads = record { period = 0; index = 0; offset = 0; cell = record { x = pos 10; y = pos 10 } } ∷ [];
  terminals = (0 ∷ 1 ∷ []) ∷ [];
}
unfolding logs_of alphabet_of ascending_of block_anchors logged_values value_at code_of anchors_of distinct
path_logs = refl

-- an object that is absent inside its block, and moves up
abbrev absence : ChartView
absence = chart_with (row 9 (pos 0) (neg_ℤ (pos 1)) (pos 5) ∷ row 9 (pos 2) (neg_ℤ (pos 1)) (pos 6) ∷ []) 1 1 4

absence_values : logged_values absence ≡ (0 ∷ 4 ∷ []) ∷ []
unfolding logged_values block_anchors value_at code_of anchors_of distinct
absence_values = refl

-- two objects over two periods, of which the second ends with the span
abbrev two : ChartView
two = chart_with (row 3 (pos 0) (pos 0) (pos 0) ∷ row 3 (pos 2) (pos 1) (pos 0) ∷ row 5 (pos 1) (pos 4)
    (pos 4) ∷ []) 1 1 2

two_logs : logs_of two ≡ record {
  alphabet = 0 ∷ [];
  heads = record { period = 0; index = 0; offset = 0; cell = record { x = pos 0; y = pos 0 } }
      ∷ record { period = 0; index = 1; offset = 1; cell = record { x = pos 4; y = pos 4 } }
      ∷ record { period = 1; index = 0; offset = 0; cell = record { x = pos 1; y = pos 0 } } ∷ [];
  terminals = (0 ∷ []) ∷ [] ∷ [] ∷ [];
}
unfolding logs_of alphabet_of ascending_of block_anchors logged_values value_at code_of anchors_of distinct
two_logs = refl
