-- The texts that the program says of itself.
use Rattle.std.specs.Prelude.{ℕ, if◌then◌else◌, List, [], ◌∷◌, Option, Some, None, codes}
use Rattle.std.specs.Str.{bytes_eq}
use denote.Ref.{Bor}
use Rattle.gract_cli.specs.declared.about.TheConstants.{HELP, VERSION}

-- the text that one word asks for
abbrev pub text_of : List ℕ → Option (List ℕ)
text_of word =
    if bytes_eq word (codes "--help") then Some HELP.now
    else if bytes_eq word (codes "--version") then Some VERSION.now
    else None

-- the text that the command words ask for, if they are `--help` or `--version` alone
abbrev pub about_of : List (Bor (List ℕ)) → Option (List ℕ)
about_of [] = None
about_of (word ∷ []) = text_of word.now
about_of (word ∷ next ∷ others) = None
