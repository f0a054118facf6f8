-- What the command words ask for.
use Rattle.std.specs.Prelude.{⊤, ℕ, ◌+◌, ◌^◌, ◌<◌, ◌≤◌, ℤ, pos, if◌then◌else◌, List, [], ◌∷◌, codes}
use Rattle.std.specs.Prelude.{Option, Some, None, Result, Ok, Err}
use denote.Ref.{Bor}
use Rattle.std.specs.Int.RustNames.{unsigned_abs}
use Rattle.std.specs.Str.{bytes_eq}
use Rattle.question_shell.specs.Lines.{has_byte}
use Rattle.track_types.specs.Limits.{IsPeriod, IsResolution}
use Rattle.track_types.specs.Bounds.{number_within}
use Rattle.track_types.specs.declared.bounds.NumberFault.{NumberFault}
use Rattle.track_types.specs.declared.limit.TheConstants.{MAX_OBJECTS, MAX_PERIOD, MAX_RESOLUTION, MAX_SPAN}
use Rattle.gract_top.specs.declared.request.Request.{Request}
use Rattle.gract_top.specs.declared.request.Request.TheVariants.{Ask, AskTail, Build, Extend, Merge, Once, Refused, Sample, Upgrade}
use Rattle.gract_top.specs.declared.request.SampleSettings.{SampleSettings}
use Rattle.gract_top.specs.declared.request.Settings.{Settings}

-- What is wanted at a place: the name of a file, which is any text that is not empty, or such a name unless there is no
-- word at all, or a numeral from one number to another.
pub data WordKind : Type 0 where
  File : WordKind
  OptionalFile : WordKind
  Number : ℕ → ℕ → WordKind

-- what a word of a kind is worth: the text itself, if there has to be none, or the number
abbrev pub Value : WordKind → Type 0
Value File = Bor (List ℕ)
Value OptionalFile = Option (Bor (List ℕ))
Value (Number least greatest) = ℕ

-- the value of a number that is not refused
abbrev pub natural_of : Result ℤ NumberFault → Option ℕ
natural_of (Ok value) = Some (unsigned_abs value)
natural_of (Err fault) = None

-- the value of a word, where it is of this kind
abbrev pub word_value : (kind : WordKind) → Bor (List ℕ) → Option (Value kind)
word_value File word = if has_byte word.now then Some word else None
word_value OptionalFile word = if has_byte word.now then Some (Some word) else None
word_value (Number least greatest) word = natural_of (number_within (pos least) (pos greatest) word.now)

-- the values of words of these kinds
abbrev pub Values : List WordKind → Type 0
Values [] = ⊤
Values (kind ∷ kinds) = Value kind × Values kinds

-- a value before others, unless these are refused
abbrev pub value_and_others : {A B : Type 0} → A → Result B ℕ → Result (A × B) ℕ
value_and_others value (Ok others) = Ok (value, others)
value_and_others value (Err place) = Err place

-- a value, where there is one, before others; else its place is refused
abbrev pub joined_or : {A B : Type 0} → Option A → ℕ → Result B ℕ → Result (A × B) ℕ
joined_or (Some value) place others = value_and_others value others
joined_or None place others = Err place

-- The values of words of these kinds, or the place of the first word that is not of its kind, of the first that is missing,
-- or of the first too many.
unfoldable pub word_values : (kinds : List WordKind) → List (Bor (List ℕ)) → ℕ → Result (Values kinds) ℕ
word_values [] [] place = Ok tt
word_values [] (word ∷ words) place = Err place
word_values (OptionalFile ∷ kinds) [] place = value_and_others None (word_values kinds [] place)
word_values (kind ∷ kinds) [] place = Err place
word_values (kind ∷ kinds) (word ∷ words) place = joined_or (word_value kind word) place (word_values kinds words (place + 1))

-- A form of words: the name of a command, what is wanted after it, and what these values ask for.
pub record Form : Type 0 where
  pub name : List ℕ
  pub kinds : List WordKind
  pub asks : Values kinds → Request

-- a word for CELL or TICK
abbrev pub resolution : WordKind
resolution = Number 1 MAX_RESOLUTION

-- a word for PERIOD
abbrev pub period : WordKind
period = Number 1 MAX_PERIOD

-- the settings of these numbers
abbrev pub settings_of : ℕ → ℕ → ℕ → Settings
settings_of cell tick period = record { cell = cell; tick = tick; period = period }

-- once CSV CELL TICK PERIOD
abbrev pub once_form : Form
once_form = record {
  name = codes "once";
  kinds = File ∷ resolution ∷ resolution ∷ period ∷ [];
  asks = λ (csv, (cell, (tick, (period, end)))). Once csv (settings_of cell tick period);
}

-- build CSV INDEX CELL TICK PERIOD
abbrev pub build_form : Form
build_form = record {
  name = codes "build";
  kinds = File ∷ File ∷ resolution ∷ resolution ∷ period ∷ [];
  asks = λ (csv, (index, (cell, (tick, (period, end))))). Build csv index (settings_of cell tick period);
}

-- what an index is asked for, with a tail or without one
abbrev pub ask_with : Bor (List ℕ) → Option (Bor (List ℕ)) → Request
ask_with index None = Ask index
ask_with index (Some tail) = AskTail index tail

-- ask INDEX, or ask INDEX TAIL
abbrev pub ask_form : Form
ask_form = record {
  name = codes "ask";
  kinds = File ∷ OptionalFile ∷ [];
  asks = λ (index, (tail, end)). ask_with index tail;
}

-- sample OBJECTS INSTANTS SEED PERIOD
abbrev pub sample_form : Form
sample_form = record {
  name = codes "sample";
  kinds = Number 1 MAX_OBJECTS ∷ Number 1 MAX_SPAN ∷ Number 0 (2 ^ 62) ∷ period ∷ [];
  asks = λ (objects, (instants, (seed, (period, end)))).
      Sample (record { objects = objects; instants = instants; seed = seed; period = period });
}

-- upgrade OLD NEW
abbrev pub upgrade_form : Form
upgrade_form = record {
  name = codes "upgrade";
  kinds = File ∷ File ∷ [];
  asks = λ (old, (new, end)). Upgrade old new;
}

-- merge A B OUT
abbrev pub merge_form : Form
merge_form = record {
  name = codes "merge";
  kinds = File ∷ File ∷ File ∷ [];
  asks = λ (left, (right, (out, end))). Merge left right out;
}

-- extend INDEX TAIL OUT
abbrev pub extend_form : Form
extend_form = record {
  name = codes "extend";
  kinds = File ∷ File ∷ File ∷ [];
  asks = λ (index, (tail, (out, end))). Extend index tail out;
}

-- the forms
abbrev pub forms : List Form
forms = once_form ∷ build_form ∷ ask_form ∷ sample_form ∷ upgrade_form ∷ merge_form ∷ extend_form ∷ []

-- what values ask for by a form, or the place that is refused
abbrev pub asked_by : (form : Form) → Result (Values form.kinds) ℕ → Request
asked_by form (Ok values) = form.asks values
asked_by form (Err place) = Refused place

-- what words after a command's name ask for by its form, where the first of them stands at a place
abbrev pub asked : Form → List (Bor (List ℕ)) → ℕ → Request
asked form words place = asked_by form (word_values form.kinds words place)

-- what words after a name ask for, by the form among these that it names
abbrev pub asked_among : List Form → List ℕ → List (Bor (List ℕ)) → Request
asked_among [] name words = Refused 1
asked_among (form ∷ forms) name words =
    if bytes_eq name form.name then asked form words 2 else asked_among forms name words

-- What the words ask for: one of the forms with its values, or the place of the first bad word, counted from 1.
abbrev pub request_of : List (Bor (List ℕ)) → Request
request_of [] = Refused 1
request_of (name ∷ words) = asked_among forms name.now words

-- numbers are in the ranges of settings
abbrev pub AreSettings : Settings → Type 0
AreSettings settings = IsResolution settings.cell × IsResolution settings.tick × IsPeriod settings.period

-- numbers are in the ranges of a sample's settings
pub record AreSampleSettings (settings : SampleSettings) : Type 0 where
  pub objects : 0 < settings.objects
  pub most_objects : settings.objects ≤ MAX_OBJECTS
  pub instants : 0 < settings.instants
  pub most_instants : settings.instants ≤ MAX_SPAN
  pub period : IsPeriod settings.period

-- the numbers of a request are in their ranges
abbrev pub AreInRange : Request → Type 0
AreInRange (Once csv settings) = AreSettings settings
AreInRange (Build csv index settings) = AreSettings settings
AreInRange (Ask index) = ⊤
AreInRange (AskTail index tail) = ⊤
AreInRange (Sample settings) = AreSampleSettings settings
AreInRange (Upgrade old new) = ⊤
AreInRange (Merge left right out) = ⊤
AreInRange (Extend index tail out) = ⊤
AreInRange (Refused place) = ⊤
