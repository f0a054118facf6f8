-- The definitions, run on inputs that were worked out by hand.
use Rattle.std.proofs.Common.{◌≡◌, ℕ, pos, negsuc, List, [], ◌∷◌, codes, refl, Ok, Err, Some, None, replicate, ◌++◌}
use Rattle.std.proofs.Common.{Bool, false, true, map}
use Rattle.std.specs.Fmt.{digits}
use Rattle.step_count.specs.Reads.{Read, is_of_period, ofPeriod, ofRule}
use Rattle.list_laws.specs.Ordered.{ordered, insert_in_order}
use Rattle.track_types.specs.ByFilter.{hits_of, nearest_among, nears_at, nears_of, sightings_of}
use Rattle.track_types.specs.Chart.{ChartView}
use Rattle.track_types.specs.Meeting.{first_together, meeting_of, pairs_of}
use Rattle.track_types.specs.declared.facts.Facts.{Facts}
use Rattle.track_types.specs.declared.question.Question.{Question}
use Rattle.track_types.specs.declared.question.Question.TheVariants as question
use Rattle.track_types.specs.declared.region.Region.TheVariants as region
use Rattle.question_shell.specs.Desk.{slot_needs}
use Rattle.question_shell.specs.Grammar.{question_of}
use Rattle.question_shell.specs.LineKept.{kept_of}
use Rattle.track_types.specs.declared.shape.Shape.TheVariants as shape
use Rattle.question_shell.specs.RegionWords.{shapes_cut, shapes_of}
use Rattle.question_shell.specs.Lines.{input_lines, unended_line, whole_lines, words_of}
use Rattle.question_shell.specs.Needs.{asked_needs, needs_after_line}
use Rattle.question_shell.specs.Replies.{costs_of, desk_after, replies_of}
use Rattle.question_shell.specs.Reply.{listed}
use Rattle.question_shell.specs.Slots.{replies_to_each, replies_to_slot}
use Rattle.question_shell.specs.declared.bad.Bad.TheVariants as bad

-- lines: an empty one counts, a last one counts where it has a byte
three_lines : input_lines (codes "a\n\nb") ≡ codes "a" ∷ [] ∷ codes "b" ∷ []
unfolding whole_lines unended_line
three_lines = refl

two_lines : input_lines (codes "a\n\n") ≡ codes "a" ∷ [] ∷ []
unfolding whole_lines unended_line
two_lines = refl

no_line : input_lines [] ≡ []
unfolding whole_lines unended_line
no_line = refl

coming_line : unended_line (codes "a\nbc") ≡ codes "bc"
unfolding unended_line
coming_line = refl

-- words are separated by spaces, tabs and carriage returns
three_words : words_of (codes "  position\t7 2\r") ≡ codes "position" ∷ codes "7" ∷ codes "2" ∷ []
three_words = refl

-- questions
position_question : question_of (codes "position 7 -2") ≡ Ok (Some (question.Position 7 (negsuc 1)))
position_question = refl

path_question : question_of (codes "path +7 0 \t 12\r") ≡ Ok (Some (question.Path 7 (pos 0) (pos 12)))
path_question = refl

info_question : question_of (codes "\tinfo ") ≡ Ok (Some question.Info)
info_question = refl

info_word_too_many : question_of (codes "info x") ≡ Err bad.Count
info_word_too_many = refl

blank_line : question_of (codes " \t\r") ≡ Ok None
blank_line = refl

other_word : question_of (codes "Position 7 2") ≡ Err bad.Word
other_word = refl

word_missing : question_of (codes "path 7 x") ≡ Err bad.Count
word_missing = refl

word_too_many : question_of (codes "position 7 2 1") ≡ Err bad.Count
word_too_many = refl

no_number : question_of (codes "path 7 x 4294967296000") ≡ Err (bad.Number 3)
no_number = refl

object_below : question_of (codes "position -1 x") ≡ Err (bad.Range 2)
object_below = refl

greatest_instant : question_of (codes "position 4294967295 2199023255552")
    ≡ Ok (Some (question.Position 4294967295 (pos 2199023255552)))
greatest_instant = refl

instant_above : question_of (codes "position 0 2199023255553") ≡ Err (bad.Range 3)
instant_above = refl

slice_question : question_of (codes "slice -2 rect 0 1 2 3")
    ≡ Ok (Some (question.Slice (negsuc 1) (region.Rect (pos 0) (pos 1) (pos 2) (pos 3))))
slice_question = refl

interval_question : question_of (codes "interval 1 2 disc -3 4 4398046511104")
    ≡ Ok (Some (question.Interval (pos 1) (pos 2) (region.Disc (negsuc 2) (pos 4) 4398046511104)))
interval_question = refl

nearest_question : question_of (codes "nearest 3 2 0 -1")
    ≡ Ok (Some (question.Nearest 3 (pos 2) (record { x = pos 0; y = negsuc 0 })))
nearest_question = refl

meet_question : question_of (codes "meet 1 4294967295 -9 9 4398046511104")
    ≡ Ok (Some (question.Meet 1 4294967295 (negsuc 8) (pos 9) 4398046511104))
meet_question = refl

distance_missing : question_of (codes "meet 1 2 0 9") ≡ Err bad.Count
distance_missing = refl

distance_below : question_of (codes "meet 1 2 0 9 -1") ≡ Err (bad.Range 6)
distance_below = refl

distance_above : question_of (codes "meet 1 2 0 9 4398046511105") ≡ Err (bad.Range 6)
distance_above = refl

zone_question : question_of (codes "slice 0 any 2 rect 2 0 2 0 disc 0 3 0")
    ≡ Ok (Some (question.Slice (pos 0) (region.Any (shape.Rect (pos 2) (pos 0) (pos 2) (pos 0) ∷ shape.Disc (pos 0) (pos 3) 0 ∷ []))))
unfolding shapes_cut shapes_of
zone_question = refl

-- after `any` their number is judged first, and then the names and the number of the words of all shapes
too_many_shapes : question_of (codes "slice x any 17 ring") ≡ Err (bad.Range 4)
too_many_shapes = refl

name_in_zone : question_of (codes "slice x any 2 disc 0 0 y ring") ≡ Err bad.Word
unfolding shapes_cut
name_in_zone = refl

number_in_zone : question_of (codes "slice 0 any 2 disc 0 0 1 rect 0 0 y 1") ≡ Err (bad.Number 12)
unfolding shapes_cut shapes_of
number_in_zone = refl

-- the word of a region's shape is judged before the number of words, and that before the numbers
other_shape : question_of (codes "slice x ring") ≡ Err bad.Word
other_shape = refl

number_as_shape : question_of (codes "interval 0 rect 1 1 2 2") ≡ Err bad.Word
number_as_shape = refl

shape_missing : question_of (codes "slice x") ≡ Err bad.Count
shape_missing = refl

side_missing : question_of (codes "slice x rect 1 2 3") ≡ Err bad.Count
side_missing = refl

instant_bad : question_of (codes "slice x disc y 2 -3") ≡ Err (bad.Number 2)
instant_bad = refl

radius_below : question_of (codes "slice 0 disc 0 0 -1") ≡ Err (bad.Range 6)
radius_below = refl

radius_above : question_of (codes "slice 0 disc 0 0 4398046511105") ≡ Err (bad.Range 6)
radius_above = refl

hold_question : question_of (codes "hold 15 7 -1 2") ≡ Ok (Some (question.Hold 15 7 (negsuc 0) (pos 2)))
hold_question = refl

more_question : question_of (codes "more 0 4294967295") ≡ Ok (Some (question.More 0 4294967295))
more_question = refl

free_question : question_of (codes "free 3") ≡ Ok (Some (question.Free 3))
free_question = refl

slot_above : question_of (codes "hold 16 7 0 2") ≡ Err (bad.Range 2)
slot_above = refl

slot_below : question_of (codes "free -1") ≡ Err (bad.Range 2)
slot_below = refl

slot_missing : question_of (codes "more 3") ≡ Err bad.Count
slot_missing = refl

-- a line of 1,025 bytes is too long where it has a word
long_line : question_of (replicate 1024 32 ++ 120 ∷ []) ≡ Err bad.Long
long_line = refl

long_blank : question_of (replicate 1100 32) ≡ Ok None
long_blank = refl

-- of the bytes after the first 1,024 one is kept: the first that is no gap, or the last
word_kept : kept_of (replicate 1100 32 ++ codes "xy ") ≡ replicate 1024 32 ++ codes "x"
word_kept = refl

gap_kept : kept_of (replicate 1024 120 ++ codes " \t") ≡ replicate 1024 120 ++ codes "\t"
gap_kept = refl

-- replies over two rows of object 7
chart : ChartView
chart = record {
  rows = record { object = 7; instant = pos 0; cell = record { x = pos 10; y = negsuc 9 } }
      ∷ record { object = 7; instant = pos 2; cell = record { x = pos 12; y = pos 11 } } ∷ [];
  first = pos 0;
  last = pos 2;
  period = 4;
  cell = 1;
  tick = 1;
}

replies_to_lines : (facts : Facts) →
    replies_of chart facts []
    (input_lines (codes "position 7 0\n\nposition 7 1\nwhere\npath 7 0 2\npath 8 0 2\nposition x 1"))
    ≡ codes "10 -10\nok 1\nok 0\nbad word\n0 10 -10\n2 12 11\nok 2\nok 0\nbad number 2\n"
unfolding chart digits replies_of listed whole_lines unended_line
replies_to_lines facts = refl

replies_to_regions : (facts : Facts) →
    replies_of chart facts [] (input_lines
    (codes "slice 2 rect 10 10 12 12\nslice 1 rect 0 0 99 99\ninterval 0 2 disc 10 -10 99\nnearest 2 0 7 -6\n"))
    ≡ codes "7 12 11\nok 1\nok 0\n7 0 10 -10\nok 1\n7 10 -10 25\nok 1\n"
unfolding
    chart digits replies_of listed whole_lines unended_line sightings_of hits_of nears_of nears_at nearest_among
    ordered insert_in_order shapes_cut
replies_to_regions facts = refl

-- objects 1 and 2 come towards each other, and are in one cell in the end
meeting_chart : ChartView
meeting_chart = record {
  rows = record { object = 1; instant = pos 0; cell = record { x = pos 0; y = pos 0 } }
      ∷ record { object = 1; instant = pos 1; cell = record { x = pos 1; y = pos 0 } }
      ∷ record { object = 1; instant = pos 2; cell = record { x = pos 2; y = pos 0 } }
      ∷ record { object = 1; instant = pos 3; cell = record { x = pos 2; y = pos 0 } }
      ∷ record { object = 2; instant = pos 0; cell = record { x = pos 9; y = pos 0 } }
      ∷ record { object = 2; instant = pos 1; cell = record { x = pos 8; y = pos 0 } }
      ∷ record { object = 2; instant = pos 2; cell = record { x = pos 5; y = pos 0 } }
      ∷ record { object = 2; instant = pos 3; cell = record { x = pos 2; y = pos 0 } } ∷ [];
  first = pos 0;
  last = pos 3;
  period = 4;
  cell = 1;
  tick = 1;
}

replies_to_meetings : (facts : Facts) →
    replies_of meeting_chart facts [] (input_lines
    (codes "meet 1 2 0 9 3\nmeet 1 2 0 9 2\nmeet 1 2 0 1 3\nmeet 1 9 0 9 3\nmeet 1 1 1 9 0\nmeet 2 1 3 3 0\n"))
    ≡ codes "2 2 0 5 0\nok 1\n3 2 0 2 0\nok 1\nok 0\nok 0\n1 1 0 1 0\nok 1\n3 2 0 2 0\nok 1\n"
unfolding
    meeting_chart digits replies_of listed whole_lines unended_line meeting_of first_together pairs_of
replies_to_meetings facts = refl

-- the eleven facts of two objects over four instants
facts_of_two : Facts
facts_of_two = record {
  objects = 2;
  first = pos 0;
  last = pos 3;
  period = 4;
  cell = 1;
  tick = 1;
  height = 2;
  alphabet = 2;
  rules = 0;
  entries = 3;
  depth = 0;
}

reply_to_info : replies_of chart facts_of_two [] (input_lines (codes "info"))
    ≡ codes "objects 2\nfirst 0\nlast 3\nperiod 4\ncell 1\ntick 1\nheight 2\nalphabet 2\nrules 0\nlog 3\ndepth 0\nok 11\n"
unfolding facts_of_two digits replies_of listed whole_lines unended_line
reply_to_info = refl

-- object 7 in three rows
path_chart : ChartView
path_chart = record {
  rows = record { object = 7; instant = pos 0; cell = record { x = pos 10; y = pos 10 } }
      ∷ record { object = 7; instant = pos 1; cell = record { x = pos 11; y = pos 10 } }
      ∷ record { object = 7; instant = pos 2; cell = record { x = pos 12; y = pos 11 } } ∷ [];
  first = pos 0;
  last = pos 2;
  period = 4;
  cell = 1;
  tick = 1;
}

-- a slot stays held when its walk has ended, until it is freed
replies_to_cursor : (facts : Facts) →
    replies_of path_chart facts (replicate 16 None) (input_lines
    (codes "hold 0 7 0 2\nhold 0 7 0 2\nmore 0 0\nmore 0 9\nmore 0 9\nfree 0\nhold 0 8 0 2\nmore 0 1\n"))
    ≡ codes "ok 0\nbad held\nok 0\n0 10 10\n1 11 10\n2 12 11\nok 3\nok 0\nok 0\nok 0\nok 0\n"
unfolding path_chart digits replies_of listed whole_lines unended_line
replies_to_cursor facts = refl

-- walks in two slots, drawn from in turn
two_cursors : List (List ℕ)
two_cursors = input_lines
    (codes "hold 0 7 0 2\nhold 15 7 1 2\nmore 0 1\nmore 15 5\nmore 0 5\nmore 0 1\nhold 15 7 0 0\nfree 3\nfree 15\nmore 15 1\n")

replies_to_two_cursors : (facts : Facts) →
    replies_of path_chart facts (replicate 16 None) two_cursors
    ≡ codes "ok 0\nok 0\n0 10 10\nok 1\n1 11 10\n2 12 11\nok 2\n1 11 10\n2 12 11\nok 2\nok 0\nbad held\nbad free\nok 0\nbad free\n"
unfolding path_chart two_cursors digits replies_of listed whole_lines unended_line
replies_to_two_cursors facts = refl

-- the replies to the lines of slot 15 among them, and what these lines alone would get
replies_to_last_slot : (facts : Facts) →
    replies_to_slot path_chart facts (replicate 16 None) 15 two_cursors
    ≡ codes "ok 0\n" ∷ codes "1 11 10\n2 12 11\nok 2\n" ∷ codes "bad held\n" ∷ codes "ok 0\n" ∷ codes "bad free\n" ∷ []
unfolding path_chart two_cursors digits replies_to_slot listed whole_lines unended_line
replies_to_last_slot facts = refl

replies_to_last_slot_alone : (facts : Facts) →
    replies_to_each path_chart facts (replicate 16 None)
    (input_lines (codes "hold 15 7 1 2\nmore 15 5\nhold 15 7 0 0\nfree 15\nmore 15 1\n"))
    ≡ codes "ok 0\n" ∷ codes "1 11 10\n2 12 11\nok 2\n" ∷ codes "bad held\n" ∷ codes "ok 0\n" ∷ codes "bad free\n" ∷ []
unfolding path_chart digits replies_to_each listed whole_lines unended_line
replies_to_last_slot_alone facts = refl

-- the desk after lines: what is left of a walk in slot 0, and nothing in slot 1
desk_after_lines : (facts : Facts) →
    desk_after path_chart facts (replicate 2 None) (input_lines (codes "hold 0 7 0 2\nhold 1 7 0 2\nmore 0 2\nfree 1\n"))
    ≡ Some (record { instant = pos 2; cell = record { x = pos 12; y = pos 11 } } ∷ []) ∷ None ∷ []
unfolding path_chart desk_after listed whole_lines unended_line
desk_after_lines facts = refl

-- holding costs what its path may cost, unless the slot is held; drawing and freeing cost nothing more
costs_of_cursors : (facts : Facts) →
    costs_of (λ asked. 5) path_chart facts (replicate 16 None)
    (input_lines (codes "hold 0 7 0 2\nhold 0 7 0 2\nmore 0 3\nfree 0\nhold 0 7 0 2\n"))
    ≡ 10
unfolding path_chart costs_of listed whole_lines unended_line
costs_of_cursors facts = refl

-- a bad and a blank line cost nothing, and `info` neither
costs_of_lines : (facts : Facts) →
    costs_of (λ asked. 5) chart facts [] (input_lines (codes "position 7 0\n\nwhere\ninfo\npath 7 0 2\n")) ≡ 10
unfolding costs_of whole_lines unended_line
costs_of_lines facts = refl

-- an answerer whose paths need the period of their object's number, and whose other questions need every read
needs_by_kind : Question → Read → Bool
needs_by_kind (question.Path object from to) read = is_of_period object read
needs_by_kind other read = true

-- A `more` makes the reads of the walk in its slot, a `slice` what the answerer says, and `hold`, `free`, `info` and a
-- bad line none. Here slot 0 holds a walk that needs period 7.
needs_of_lines : map (λ line.
    asked_needs needs_by_kind (slot_needs is_of_period (Some 7 ∷ None ∷ [])) (question_of line) (ofPeriod 7))
    (input_lines (codes "hold 15 7 0 2\nmore 0 9\nmore 1 9\nfree 0\ninfo\nwhere\nslice 0 disc 0 0 1\n"))
    ≡ false ∷ true ∷ false ∷ false ∷ false ∷ false ∷ true ∷ []
unfolding needs_by_kind whole_lines unended_line
needs_of_lines = refl

-- After each of these lines, asked of the same desk, whether slots 0 and 1 need period 7: after a `hold` of its path slot
-- 1 does too, and after `free 0` slot 0 does not.
needs_after_lines : map (λ line. map (λ slot.
    needs_after_line needs_by_kind (slot_needs is_of_period (Some 7 ∷ None ∷ [])) (question_of line) slot (ofPeriod 7))
    (0 ∷ 1 ∷ []))
    (input_lines (codes "hold 1 7 0 2\nhold 1 8 0 2\nmore 0 9\nfree 0\nfree 1\nwhere\n"))
    ≡ (true ∷ true ∷ []) ∷ (true ∷ false ∷ []) ∷ (true ∷ false ∷ []) ∷ (false ∷ false ∷ []) ∷ (true ∷ false ∷ [])
    ∷ (true ∷ false ∷ []) ∷ []
unfolding needs_by_kind whole_lines unended_line
needs_after_lines = refl

-- a walk in slot 0 that needs period 4, and nothing in slot 1
needs_of_slots : map (λ slot. slot_needs is_of_period (Some 4 ∷ None ∷ []) slot (ofPeriod 4)) (0 ∷ 1 ∷ 2 ∷ [])
    ≡ true ∷ false ∷ false ∷ []
needs_of_slots = refl

needs_of_rules : slot_needs is_of_period (Some 4 ∷ None ∷ []) 0 (ofRule 4) ≡ false
needs_of_rules = refl
