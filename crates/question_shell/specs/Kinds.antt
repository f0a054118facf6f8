-- Each kind of question: its words and what they ask, which may be asked, what it finds, and what it takes.
use Rattle.std.specs.Prelude.{ℕ, ◌==◌, Bool, if◌then◌else◌, List, [], ◌∷◌, drop, length, map, codes, ℤ, pos}
use Rattle.std.specs.Prelude.{Result, Ok, Err, true, false, unsigned_abs, option_to_list, ◌<◌, ◌≤◌, ⊤}
use Rattle.std.specs.Str.{bytes_eq}
use Rattle.step_count.specs.Reads.{Read}
use Rattle.track_types.specs.ByFilter.{cell_at, hits_of, nears_of, path_of, sightings_of}
use Rattle.track_types.specs.Chart.{ChartView}
use Rattle.track_types.specs.Meeting.{meeting_of}
use Rattle.track_types.specs.Near.{IsAsked, IsCellAsked}
use Rattle.track_types.specs.Region.{IsRegionAsked}
use Rattle.track_types.specs.declared.facts.Facts.{Facts}
use Rattle.track_types.specs.declared.limit.TheConstants.{MAX_REACH}
use Rattle.track_types.specs.declared.question.Question.{Question}
use Rattle.track_types.specs.declared.question.Question.TheVariants as question
use Rattle.track_types.specs.declared.region.Region.{Region}
use Rattle.question_shell.specs.Desk.{no_needs}
use Rattle.question_shell.specs.NumberWords.{NumberWord, first_fault, nth_number, numbers_of, object_word}
use Rattle.question_shell.specs.NumberWords.{place_word, radius_word, slot_word}
use Rattle.question_shell.specs.RegionWords.{RegionTexts, layout_of, region_of, unless_bad}
use Rattle.question_shell.specs.declared.bad.Bad.{Bad}
use Rattle.question_shell.specs.declared.bad.Bad.TheVariants as bad
use Rattle.question_shell.specs.declared.form.Form.{Form}
use Rattle.question_shell.specs.declared.form.Form.TheVariants.{Position, Path, Slice, Interval, Nearest, Meet, Info, Hold, More}
use Rattle.question_shell.specs.declared.form.Form.TheVariants.{Free}
use Rattle.question_shell.specs.declared.item.Item.{Item}
use Rattle.question_shell.specs.declared.item.Item.TheVariants as item
use Rattle.question_shell.specs.declared.time.Time.{Time}
use Rattle.question_shell.specs.declared.time.Time.TheVariants.{At, During}

-- the numbers of a question before its region, if it has one
abbrev pub form_words : Form → List NumberWord
form_words Position = object_word ∷ place_word ∷ []
form_words Path = object_word ∷ place_word ∷ place_word ∷ []
form_words Slice = place_word ∷ []
form_words Interval = place_word ∷ place_word ∷ []
form_words Nearest = object_word ∷ place_word ∷ place_word ∷ place_word ∷ []
form_words Meet = object_word ∷ object_word ∷ place_word ∷ place_word ∷ radius_word ∷ []
form_words Info = []
form_words Hold = slot_word ∷ object_word ∷ place_word ∷ place_word ∷ []
form_words More = slot_word ∷ object_word ∷ []
form_words Free = slot_word ∷ []

-- the form that a line's first word names
abbrev pub form_of : List ℕ → Result Form Bad
form_of first =
    if bytes_eq first (codes "position") then Ok Position
    else if bytes_eq first (codes "path") then Ok Path
    else if bytes_eq first (codes "slice") then Ok Slice
    else if bytes_eq first (codes "interval") then Ok Interval
    else if bytes_eq first (codes "nearest") then Ok Nearest
    else if bytes_eq first (codes "meet") then Ok Meet
    else if bytes_eq first (codes "info") then Ok Info
    else if bytes_eq first (codes "hold") then Ok Hold
    else if bytes_eq first (codes "more") then Ok More
    else if bytes_eq first (codes "free") then Ok Free
    else Err bad.Word

-- a question without a region: as many words as it has numbers, each a numeral in its range
abbrev pub plain_question : Form → (List ℤ → Question) → List (List ℕ) → Result Question Bad
plain_question form asks words =
    if length words == length (form_words form)
    then unless_bad (first_fault (form_words form) 1 words) (asks (numbers_of (form_words form) words))
    else Err bad.Count

-- a question about a region, or the fault of that
abbrev pub about : (Region → Question) → Result Region Bad → Result Question Bad
about asks (Ok region) = Ok (asks region)
about asks (Err fault) = Err fault

-- a question about a region whose words are laid out so from that place of the line, after numbers that ask so
abbrev pub laid_question : Result RegionTexts Bad → Result (Region → Question) Bad → ℕ → Result Question Bad
laid_question (Err fault) asks place = Err fault
laid_question (Ok words) (Err fault) place = Err fault
laid_question (Ok words) (Ok asks) place = about asks (region_of place words)

-- the question about a region at a time
abbrev pub time_question : Time → Region → Question
time_question (At instant) region = question.Slice instant region
time_question (During from to) region = question.Interval from to region

-- what the words after a form's first ask
abbrev pub form_question : Form → List (List ℕ) → Result Question Bad
form_question Position words = plain_question Position
    (λ numbers. question.Position (unsigned_abs (nth_number numbers 0)) (nth_number numbers 1)) words
form_question Path words = plain_question Path
    (λ numbers. question.Path (unsigned_abs (nth_number numbers 0)) (nth_number numbers 1) (nth_number numbers 2)) words
form_question Slice words = laid_question (layout_of 3 (drop 1 words))
    (unless_bad (first_fault (form_words Slice) 1 words) (question.Slice (nth_number (numbers_of (form_words Slice) words) 0))) 3
form_question Interval words =
    let numbers = numbers_of (form_words Interval) words in
    laid_question (layout_of 4 (drop 2 words)) (unless_bad (first_fault (form_words Interval) 1 words)
    (question.Interval (nth_number numbers 0) (nth_number numbers 1))) 4
form_question Nearest words = plain_question Nearest
    (λ numbers. question.Nearest (unsigned_abs (nth_number numbers 0)) (nth_number numbers 1)
    (record { x = nth_number numbers 2; y = nth_number numbers 3 })) words
form_question Meet words = plain_question Meet
    (λ numbers. question.Meet (unsigned_abs (nth_number numbers 0)) (unsigned_abs (nth_number numbers 1))
    (nth_number numbers 2) (nth_number numbers 3) (unsigned_abs (nth_number numbers 4))) words
form_question Info words = plain_question Info (λ numbers. question.Info) words
form_question Hold words = plain_question Hold
    (λ numbers. question.Hold (unsigned_abs (nth_number numbers 0)) (unsigned_abs (nth_number numbers 1))
    (nth_number numbers 2) (nth_number numbers 3)) words
form_question More words = plain_question More
    (λ numbers. question.More (unsigned_abs (nth_number numbers 0)) (unsigned_abs (nth_number numbers 1))) words
form_question Free words = plain_question Free (λ numbers. question.Free (unsigned_abs (nth_number numbers 0))) words

-- the instants, the region, the cell and the distance that a question names may be asked for, and its slot is one of the
-- desk's 16
abbrev pub AreAsked : Question → Type 0
AreAsked (question.Position object instant) = IsAsked instant
AreAsked (question.Path object from to) = IsAsked from × IsAsked to
AreAsked (question.Slice instant region) = IsAsked instant × IsRegionAsked region
AreAsked (question.Interval from to region) = IsAsked from × IsAsked to × IsRegionAsked region
AreAsked (question.Nearest count instant cell) = IsAsked instant × IsCellAsked cell
AreAsked (question.Meet left right from to reach) = IsAsked from × IsAsked to × (reach ≤ MAX_REACH)
AreAsked question.Info = ⊤
AreAsked (question.Hold slot object from to) = (slot < 16) × IsAsked from × IsAsked to
AreAsked (question.More slot count) = slot < 16
AreAsked (question.Free slot) = slot < 16

-- the instants of a time may be asked for
abbrev pub IsTimeAsked : Time → Type 0
IsTimeAsked (At instant) = IsAsked instant
IsTimeAsked (During from to) = IsAsked from × IsAsked to

-- what `info` tells of each fact: its name and its number
abbrev pub named_facts : Facts → List (List ℕ × ℤ)
named_facts facts =
    (codes "objects", pos facts.objects)
    ∷ (codes "first", facts.first)
    ∷ (codes "last", facts.last)
    ∷ (codes "period", pos facts.period)
    ∷ (codes "cell", pos facts.cell)
    ∷ (codes "tick", pos facts.tick)
    ∷ (codes "height", pos facts.height)
    ∷ (codes "alphabet", pos facts.alphabet)
    ∷ (codes "rules", pos facts.rules)
    ∷ (codes "log", pos facts.entries)
    ∷ (codes "depth", pos facts.depth)
    ∷ []

-- what a question finds in a chart and its facts
abbrev pub items_in : ChartView → Facts → Question → List Item
items_in chart facts (question.Position object instant) =
    map item.Cell (option_to_list (cell_at chart.rows object instant))
items_in chart facts (question.Path object from to) = map item.Stop (path_of chart.rows object from to)
items_in chart facts (question.Slice instant region) = map item.Sighting (sightings_of chart.rows instant region)
items_in chart facts (question.Interval from to region) = map item.Hit (hits_of chart.rows from to region)
items_in chart facts (question.Nearest count instant cell) = map item.Near (nears_of chart.rows count instant cell)
items_in chart facts (question.Meet left right from to reach) =
    map item.Meeting (option_to_list (meeting_of chart.rows left right from to reach))
items_in chart facts question.Info = map item.Fact (named_facts facts)
items_in chart facts other = []

-- whether a question takes memory that is about no slot: `position` and `info` take none
abbrev pub own_memory : Question → Bool
own_memory (question.Position object instant) = false
own_memory question.Info = false
own_memory other = true

-- what a question costs that is about no slot: nothing for `info`
abbrev pub own_cost : (Question → ℕ) → Question → ℕ
own_cost cost question.Info = 0
own_cost cost other = cost other

-- the reads that a question needs that is about no slot: none for `info`
abbrev pub own_needs : (Question → Read → Bool) → Question → Read → Bool
own_needs needs question.Info = no_needs
own_needs needs other = needs other
