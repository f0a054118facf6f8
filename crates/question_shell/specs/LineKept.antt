-- What is kept of a line while its bytes come.
use Rattle.std.specs.Prelude.{ℕ, if◌then◌else◌, List, [], ◌∷◌, ◌++◌, take, drop}
use Rattle.question_shell.specs.Lines.{is_gap}

-- the first byte that is no gap, or where all are gaps the last
abbrev pub telling_byte : List ℕ → List ℕ
telling_byte [] = []
telling_byte (byte ∷ []) = byte ∷ []
telling_byte (byte ∷ next ∷ rest) = if is_gap byte then telling_byte (next ∷ rest) else byte ∷ []

-- What is kept of these bytes of a line, which asks what they ask. Up to 1,024 bytes it is all of them. Else it is the
-- first 1,024 and one of those after them: the first that is no gap, or where all are gaps the last.
abbrev pub kept_of : List ℕ → List ℕ
kept_of line = take 1024 line ++ telling_byte (drop 1024 line)
