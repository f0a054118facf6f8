-- Steps of a writer one after the other.
use Rattle.std.proofs.Common.{ℕ, ◌+◌, List, ◌++◌, take, drop, Option, Some, None, sym, ◌∙◌, ap, append_assoc}
use Rattle.std.proofs.Math.Seq.{take-add}
use Rattle.std.specs.Io.KnownBytes.{Keeps, Appends}

-- what was appended stays where the bytes are kept
pub appends-keeps : (a b c : Option (List ℕ)) (bytes : List ℕ) → Appends a b bytes → Keeps b c → Appends a c bytes
appends-keeps None b c bytes appended kept = tt
appends-keeps (Some xs) None c bytes appended kept = absurd appended
appends-keeps (Some xs) (Some ys) None bytes appended kept = kept
appends-keeps (Some xs) (Some ys) (Some zs) bytes appended kept = kept ∙ appended

-- the first bytes of a piece, and then the next of them
pub appends-take :
    (a b c : Option (List ℕ)) (piece : List ℕ) (sent count : ℕ)
    → Appends a b (take sent piece) → Appends b c (take count (drop sent piece))
    → Appends a c (take (sent + count) piece)
appends-take None b c piece sent count first next = tt
appends-take (Some xs) None c piece sent count first next = absurd first
appends-take (Some xs) (Some ys) None piece sent count first next = next
appends-take (Some xs) (Some ys) (Some zs) piece sent count first next =
    next ∙ ap (λ front. front ++ take count (drop sent piece)) first
    ∙ append_assoc xs (take sent piece) (take count (drop sent piece))
    ∙ ap (λ all. xs ++ all) (sym (take-add sent count piece))
