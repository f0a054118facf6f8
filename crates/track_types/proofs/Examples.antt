-- The definitions, run on rows that were worked out by hand.
use Rattle.std.proofs.Common.{◌≡◌, ℕ, ℤ, pos, negsuc, List, [], ◌∷◌, ◌++◌, map, Some, None, true, false, refl}
use Rattle.track_types.specs.ByFilter.{cell_at, hits_of, nearest_among, nears_at, nears_of, sightings_of}
use Rattle.list_laws.specs.Ordered.{ordered, insert_in_order}
use Rattle.track_types.specs.Frame.{end_in, first_in, instants_in, last_in, period_in, periods_of, wide_of}
use Rattle.track_types.specs.Boxes.{box_from, cut_box, joined_box, moved_box, touches}
use Rattle.track_types.specs.Timeline.{terminals_from}
use Rattle.track_types.specs.declared.cell_box.CellBox.{CellBox}
use Rattle.track_types.specs.PartsForm.{width_for}
use Rattle.track_types.specs.Spelling.{greatest_height, holds_parts, packs_symbols, spelling_of}
use Rattle.track_types.specs.declared.frame.Frame.{Frame}
use Rattle.track_types.specs.Quantities.{anchors_of, block_count, distinct, extent_of, first_of, last_of, object_count, objects_of, period_count, span_of, symbol_count}
use Rattle.track_types.specs.declared.cell.Cell.{Cell}
use Rattle.track_types.specs.declared.region.Region.{Region}
use Rattle.track_types.specs.declared.region.Region.TheVariants.{Disc, Rect}
use Rattle.track_types.specs.declared.row.Row.{Row}
use Rattle.track_types.specs.declared.spelling.Spelling.{Spelling}

row : ℕ → ℤ → ℤ → ℤ → Row
row object instant x y = record { object = object; instant = instant; cell = record { x = x; y = y } }

-- object 1 is absent in the instants 1 and 2, and object 2 comes late
late : List Row
unfolding row
late = row 1 (pos 0) (pos 0) (pos 0) ∷ row 1 (pos 3) (pos 3) (pos 0) ∷ row 2 (pos 3) (pos 1) (pos 1) ∷ []

late_ends : first_of late ∷ last_of late ∷ [] ≡ pos 0 ∷ pos 3 ∷ []
unfolding late row
late_ends = refl

late_quantities : span_of late ∷ extent_of late ∷ object_count late ∷ [] ≡ 4 ∷ 4 ∷ 2 ∷ []
unfolding late row distinct
late_quantities = refl

late_objects : objects_of late ≡ 1 ∷ 2 ∷ []
unfolding late row distinct
late_objects = refl

-- in one period object 1 has three terminals and object 2 none
late_symbols : period_count late 4 ∷ block_count late 4 ∷ symbol_count late 4 ∷ [] ≡ 1 ∷ 2 ∷ 3 ∷ []
unfolding late row distinct anchors_of
late_symbols = refl

-- in periods of three instants the second holds one instant
late_periods : period_count late 3 ∷ block_count late 3 ∷ symbol_count late 3 ∷ [] ≡ 2 ∷ 4 ∷ 2 ∷ []
unfolding late row distinct anchors_of
late_periods = refl

-- with a period for each instant no log has a terminal
late_instants : period_count late 1 ∷ block_count late 1 ∷ symbol_count late 1 ∷ [] ≡ 4 ∷ 8 ∷ 0 ∷ []
unfolding late row distinct anchors_of
late_instants = refl

-- a period ends at its own last instant, also where the span goes on
around_zero : symbol_count (row 7 (negsuc 1) (pos 0) (pos 0) ∷ row 7 (pos 3) (pos 0) (pos 0) ∷ []) 4 ≡ 3
unfolding row anchors_of
around_zero = refl

left_and_below : extent_of (row 7 (pos 0) (negsuc 9) (pos 4) ∷ row 8 (pos 0) (pos 0) (negsuc 20) ∷ []) ≡ 26
unfolding row
left_and_below = refl

present : cell_at late 1 (pos 3) ≡ Some (record { x = pos 3; y = pos 0 })
unfolding late row
present = refl

absent : cell_at late 1 (pos 2) ∷ cell_at late 3 (pos 3) ∷ [] ≡ None ∷ None ∷ []
unfolding late row
absent = refl

-- five instants in periods of two: the last period has one
abbrev five : Frame
five = record {
  version = 1;
  first = pos 0;
  span = 5;
  period = 2;
  height = 1;
  base = record { x = pos 0; y = pos 0 };
  cell = 1;
  tick = 1;
}

five_periods : periods_of five ∷ instants_in five 0 ∷ instants_in five 1 ∷ instants_in five 2 ∷ [] ≡ 3 ∷ 2 ∷ 2 ∷ 1 ∷ []
five_periods = refl

five_bounds : first_in five 1 ∷ end_in five 1 ∷ first_in five 2 ∷ end_in five 2 ∷ last_in five ∷ [] ≡ pos 2 ∷ pos 3 ∷ pos 4 ∷ pos 4 ∷ pos 4 ∷ []
five_bounds = refl

-- no period has an instant before the first or after the last
five_found : map (period_in five) (pos 0 ∷ pos 3 ∷ pos 4 ∷ pos 5 ∷ negsuc 0 ∷ []) ≡ Some 0 ∷ Some 1 ∷ Some 2 ∷ None ∷ None ∷ []
five_found = refl

-- a log of a period's last instant is empty
five_terminals : map (terminals_from (pos 0) 5 2) (pos 2 ∷ pos 3 ∷ pos 4 ∷ []) ≡ 1 ∷ 0 ∷ 0 ∷ []
five_terminals = refl

-- the bounds of a box
abbrev bounds : CellBox → List ℤ
bounds area = area.x1 ∷ area.y1 ∷ area.x2 ∷ area.y2 ∷ []

-- two boxes of five columns and five lines that have two of each in common, and one that has none with the first
abbrev low_box : CellBox
low_box = box_from (pos 0) (pos 0) 4

abbrev high_box : CellBox
high_box = box_from (pos 3) (pos 3) 4

abbrev right_box : CellBox
right_box = box_from (pos 5) (pos 3) 4

boxes_touch : map (touches low_box) (low_box ∷ high_box ∷ right_box ∷ []) ≡ true ∷ true ∷ false ∷ []
boxes_touch = refl

boxes_cut : bounds (cut_box low_box high_box) ≡ pos 3 ∷ pos 3 ∷ pos 4 ∷ pos 4 ∷ []
boxes_cut = refl

boxes_joined : bounds (joined_box low_box right_box) ≡ pos 0 ∷ pos 0 ∷ pos 9 ∷ pos 7 ∷ []
boxes_joined = refl

box_moved : bounds (moved_box (record { x = negsuc 0; y = pos 2 }) low_box) ≡ negsuc 0 ∷ pos 2 ∷ pos 3 ∷ pos 6 ∷ []
box_moved = refl

-- the same header in version 2, of trees of a height
abbrev tall : ℕ → Frame
tall height = record {
  version = 2;
  first = pos 0;
  span = 5;
  period = 2;
  height = height;
  base = record { x = pos 0; y = pos 0 };
  cell = 1;
  tick = 1;
}

-- in version 1 no level is wide, in version 2 one of four, rounded down
wide_levels : map wide_of (five ∷ tall 3 ∷ tall 4 ∷ tall 7 ∷ tall 24 ∷ []) ≡ 0 ∷ 0 ∷ 1 ∷ 1 ∷ 6 ∷ []
wide_levels = refl

-- the three versions of the format
abbrev spellings : List Spelling
spellings = map spelling_of (1 ∷ 2 ∷ 3 ∷ [])

-- the third holds no parts, and the first alone has symbols of four bytes and a lower greatest height
versions : (map holds_parts spellings ≡ true ∷ true ∷ false ∷ [])
    × (map packs_symbols spellings ≡ false ∷ true ∷ true ∷ [])
    × (map greatest_height spellings ≡ 20 ∷ 24 ∷ 24 ∷ [])
versions = (refl, refl, refl)

-- one bit for no symbol, one and two; two for three and four, three for five
widths : map width_for (0 ∷ 1 ∷ 2 ∷ 3 ∷ 4 ∷ 5 ∷ 256 ∷ 257 ∷ []) ≡ 1 ∷ 1 ∷ 1 ∷ 2 ∷ 2 ∷ 3 ∷ 8 ∷ 9 ∷ []
unfolding width_for
widths = refl

-- two objects are equally far from (0, 0), and a third is farther
tied : List Row
unfolding row
tied = row 3 (pos 0) (negsuc 1) (pos 0) ∷ row 5 (pos 0) (pos 2) (pos 0) ∷ row 9 (pos 0) (pos 0) (pos 3) ∷ []

centre : Cell
centre = record { x = pos 0; y = pos 0 }

tied_nears : map (λ near. near.object) (nears_of tied 1 (pos 0) centre) ≡ 3 ∷ []
unfolding tied row centre ordered insert_in_order nears_of nearest_among nears_at
tied_nears = refl

all_nears : map (λ near. near.dist2) (nears_of tied 5 (pos 0) centre) ≡ 4 ∷ 4 ∷ 9 ∷ []
unfolding tied row centre ordered insert_in_order nears_of nearest_among nears_at
all_nears = refl

no_nears : nears_of tied 0 (pos 0) centre ≡ []
unfolding tied row centre ordered insert_in_order nears_of nearest_among nears_at
no_nears = refl

tied_sightings : map (λ found. found.object) (sightings_of tied (pos 0) (Disc (pos 0) (pos 0) 2)) ≡ 3 ∷ 5 ∷ []
unfolding tied row sightings_of
tied_sightings = refl

no_sightings : sightings_of tied (pos 0) (Rect (pos 3) (pos 0) (negsuc 2) (pos 0)) ≡ []
unfolding tied row sightings_of
no_sightings = refl

-- an object that comes into a square, leaves it, and comes back
back : List Row
unfolding row
back = row 4 (pos 0) (pos 0) (pos 0) ∷ row 4 (pos 1) (pos 5) (pos 5) ∷ row 4 (pos 2) (pos 0) (pos 0)
    ∷ row 4 (pos 4) (pos 5) (pos 6) ∷ row 4 (pos 5) (pos 5) (pos 5) ∷ []

square : Region
square = Rect (pos 5) (pos 5) (pos 6) (pos 6)

first_hit : map (λ hit. hit.instant) (hits_of back (pos 0) (pos 5) square) ≡ pos 1 ∷ []
unfolding back row square hits_of
first_hit = refl

later_hit : map (λ hit. hit.instant) (hits_of back (pos 2) (pos 5) square) ≡ pos 4 ∷ []
unfolding back row square hits_of
later_hit = refl

no_hits : hits_of back (pos 2) (pos 3) square ++ hits_of back (pos 5) (pos 0) square ≡ []
unfolding back row square hits_of
no_hits = refl
