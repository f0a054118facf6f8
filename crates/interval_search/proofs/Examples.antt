-- The first hits of objects, run on rows that were worked out by hand.
use Rattle.std.proofs.Common.{◌≡◌, ℕ, ℤ, pos, List, [], ◌∷◌, refl}
use Rattle.std.specs.List.{filter_map}
use Rattle.track_types.specs.ByFilter.{hits_of}
use Rattle.track_types.specs.declared.hit.Hit.{Hit}
use Rattle.track_types.specs.declared.region.Region.{Region}
use Rattle.track_types.specs.declared.region.Region.TheVariants.{Rect}
use Rattle.track_types.specs.declared.row.Row.{Row}
use Rattle.interval_search.specs.FirstHits.{hit_in}

row : ℕ → ℤ → ℤ → Row
row object instant x = record { object = object; instant = instant; cell = record { x = x; y = pos 0 } }

hit : ℕ → ℤ → ℤ → Hit
hit object instant x = record { object = object; instant = instant; cell = record { x = x; y = pos 0 } }

-- object 3 comes in at the instant 1 and stays, object 5 is never in, and object 8 leaves and comes back
rows : List Row
unfolding row
rows =
    row 3 (pos 0) (pos 0) ∷ row 3 (pos 1) (pos 2) ∷ row 3 (pos 2) (pos 3) ∷ row 5 (pos 1) (pos 9)
    ∷ row 8 (pos 0) (pos 1) ∷ row 8 (pos 1) (pos 4) ∷ row 8 (pos 3) (pos 1) ∷ []

line : Region
line = Rect (pos 1) (pos 0) (pos 3) (pos 0)

by_object : ℤ → ℤ → List Hit
unfolding rows row line
by_object from to = filter_map (hit_in rows from to line) (3 ∷ 5 ∷ 8 ∷ [])

each_first : by_object (pos 0) (pos 3) ≡ hit 3 (pos 1) (pos 2) ∷ hit 8 (pos 0) (pos 1) ∷ []
unfolding by_object rows row line hit
each_first = refl

-- a window that begins later has later first hits, and both of its ends count
later_first : by_object (pos 2) (pos 3) ≡ hit 3 (pos 2) (pos 3) ∷ hit 8 (pos 3) (pos 1) ∷ []
unfolding by_object rows row line hit
later_first = refl

none_between : by_object (pos 1) (pos 1) ≡ hit 3 (pos 1) (pos 2) ∷ []
unfolding by_object rows row line hit
none_between = refl

-- a filter of all rows finds the same
by_filter : hits_of rows (pos 0) (pos 3) line ≡ by_object (pos 0) (pos 3)
unfolding hits_of by_object rows row line
by_filter = refl
