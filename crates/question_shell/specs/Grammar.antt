-- What a line asks.
use Rattle.std.specs.Prelude.{ℕ, nat_lt, Bool, if◌then◌else◌, List, [], ◌∷◌, length, Option, Some, None}
use Rattle.std.specs.Prelude.{Result, Ok, Err, true, false}
use Rattle.track_types.specs.declared.question.Question.{Question}
use Rattle.track_types.specs.declared.region.Region.{Region}
use Rattle.question_shell.specs.Kinds.{form_of, form_question, time_question}
pub use Rattle.question_shell.specs.Kinds.{AreAsked, IsTimeAsked, laid_question}
use Rattle.question_shell.specs.Lines.{words_of}
use Rattle.question_shell.specs.declared.bad.Bad.{Bad}
use Rattle.question_shell.specs.declared.bad.Bad.TheVariants as bad
use Rattle.question_shell.specs.declared.form.Form.{Form}
use Rattle.question_shell.specs.declared.time.Time.{Time}

-- a line that asks a question, or is bad
abbrev pub some_question : Result Question Bad → Result (Option Question) Bad
some_question (Ok asked) = Ok (Some asked)
some_question (Err fault) = Err fault

-- what the words after a first one ask, where that names a form
abbrev pub worded_question : Result Form Bad → List (List ℕ) → Result (Option Question) Bad
worded_question (Err fault) words = Err fault
worded_question (Ok form) words = some_question (form_question form words)

-- what the words of a line ask, which may be too long
abbrev pub question_in : Bool → List (List ℕ) → Result (Option Question) Bad
question_in is_long [] = Ok None
question_in is_long (first ∷ words) =
    if is_long then Err bad.Long else worded_question (form_of first) words

-- the question that a reading with this result wrote into its place
abbrev pub place_told : Result Unit Bad → Question → Result Question Bad
place_told (Ok done) place = Ok place
place_told (Err fault) place = Err fault

-- what a line asks, where its reading said whether it has a word, and wrote its question into this place
abbrev pub line_told : Result Bool Bad → Question → Result (Option Question) Bad
line_told (Ok true) place = Ok (Some place)
line_told (Ok false) place = Ok None
line_told (Err fault) place = Err fault

-- what a time that was read asks about a region
abbrev pub asks_of : Result Time Bad → Result (Region → Question) Bad
asks_of (Ok time) = Ok (time_question time)
asks_of (Err fault) = Err fault

-- whether a line has more than 1,024 bytes
abbrev pub is_long : List ℕ → Bool
is_long line = nat_lt 1024 (length line)

-- What a line asks: nothing where it has no word, else a question, or the first cause: long, the first word, how its
-- region's words are laid out, count, and from the left number or range.
abbrev pub question_of : List ℕ → Result (Option Question) Bad
question_of line = question_in (is_long line) (words_of line)
