-- Meetings of worked rows.
use Rattle.std.proofs.Common.{◌≡◌, ℕ, pos, List, [], ◌∷◌, Some, None, refl}
use Rattle.track_types.specs.Meeting.{first_together, meeting_of, pairs_of}
use Rattle.track_types.specs.declared.meeting.Meeting.{Meeting}
use Rattle.track_types.specs.declared.row.Row.{Row}

abbrev row : ℕ → ℕ → ℕ → ℕ → Row
row object instant x y = record { object = object; instant = pos instant; cell = record { x = pos x; y = pos y } }

abbrev meeting : ℕ → ℕ → ℕ → ℕ → ℕ → Meeting
meeting instant x y u v =
    record { instant = pos instant; left = record { x = pos x; y = pos y }; right = record { x = pos u; y = pos v } }

-- two objects that come nearer
abbrev rows : List Row
rows = row 1 0 0 0 ∷ row 1 1 1 0 ∷ row 1 2 2 0 ∷ row 1 3 2 0 ∷ row 2 0 9 0 ∷ row 2 1 8 0 ∷ row 2 2 5 0 ∷ row 2 3 2 0 ∷ []

within_three : meeting_of rows 1 2 (pos 0) (pos 9) 3 ≡ Some (meeting 2 2 0 5 0)
unfolding meeting_of first_together pairs_of
within_three = refl

within_two : meeting_of rows 1 2 (pos 0) (pos 9) 2 ≡ Some (meeting 3 2 0 2 0)
unfolding meeting_of first_together pairs_of
within_two = refl

too_early : meeting_of rows 1 2 (pos 0) (pos 1) 3 ≡ None
unfolding meeting_of first_together pairs_of
too_early = refl

unknown : meeting_of rows 1 9 (pos 0) (pos 9) 3 ≡ None
unfolding meeting_of first_together pairs_of
unknown = refl

itself : meeting_of rows 1 1 (pos 1) (pos 9) 0 ≡ Some (meeting 1 1 0 1 0)
unfolding meeting_of first_together pairs_of
itself = refl
