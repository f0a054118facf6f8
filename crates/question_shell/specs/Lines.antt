-- Bytes separated into lines, and a line into words.
use Rattle.std.specs.Prelude.{◌≡◌, ℕ, ◌==◌, ◌||◌, ⊤, Bool, true, false, List, [], ◌∷◌, ◌++◌, filter, take}
use Rattle.std.specs.Prelude.{slice_index_or}
use Rattle.std.specs.List.{count_by, slice_split}

-- the byte that ends a line
abbrev pub is_line_feed : ℕ → Bool
is_line_feed byte = byte == 10

-- the lines that a line feed ends, without it: as many pieces as there are line feeds
unfoldable pub whole_lines : List ℕ → List (List ℕ)
whole_lines input = take (count_by is_line_feed input) (slice_split is_line_feed input)

-- the bytes after the last line feed: the one piece more
unfoldable pub unended_line : List ℕ → List ℕ
unended_line input = slice_index_or (slice_split is_line_feed input) (count_by is_line_feed input) []

-- a list of one text, or none where the text has no byte
abbrev pub if_any : List ℕ → List (List ℕ)
if_any [] = []
if_any (byte ∷ rest) = (byte ∷ rest) ∷ []

-- the lines of question input: a last line without a line feed counts where it has a byte
abbrev pub input_lines : List ℕ → List (List ℕ)
input_lines input = whole_lines input ++ if_any (unended_line input)

-- a space, a tab or a carriage return
abbrev pub is_gap : ℕ → Bool
is_gap byte = ((byte == 32) || (byte == 9)) || (byte == 13)

-- whether a text is not empty
abbrev pub has_byte : List ℕ → Bool
has_byte [] = false
has_byte (byte ∷ rest) = true

-- the words of a line: what stands between gaps
abbrev pub words_of : List ℕ → List (List ℕ)
words_of line = filter has_byte (slice_split is_gap line)

-- what is left of a line begins with a word, or has no byte
abbrev pub BeginsWord : List ℕ → Type 0
BeginsWord [] = ⊤
BeginsWord (byte ∷ rest) = is_gap byte ≡ false

-- what is left of a line begins with a gap, or has no byte
abbrev pub EndsWord : List ℕ → Type 0
EndsWord [] = ⊤
EndsWord (byte ∷ rest) = is_gap byte ≡ true
