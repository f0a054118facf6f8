-- What a copy into the front of a buffer leaves there.
use Rattle.std.proofs.Common.{◌≡◌, ℕ, ◌≤◌, min, List, ◌++◌, length, take, drop, sym, ◌∙◌, ap, subst, arith}
use Rattle.std.proofs.lemmas.List.{append_assoc, drop-append-le, take-append-drop, length-take-le}

-- a copy into a piece of the buffer leaves what a copy into the whole would leave
pub drop-take-drop :
    {X : Type 0} (count most : ℕ) (buf : List X) → count ≤ most → most ≤ length buf
    → drop count (take most buf) ++ drop most buf ≡ drop count buf
drop-take-drop count most buf in_piece in_buf =
    let e : length (take most buf) ≡ most = length-take-le most buf in_buf in
    let fits : count ≤ length (take most buf) = omega arith in
    sym (drop-append-le count (take most buf) (drop most buf) fits) ∙ ap (drop count) (take-append-drop most buf)

-- a copy of as much of `rest` as fits into a piece of the buffer leaves in the whole what a copy into its front would leave
pub filled-piece :
    (piece : ℕ) (rest buf new : List ℕ) (most n : ℕ) → most ≡ min piece (length buf)
    → (let count = min (length (take most buf)) (length rest) in new ≡ take count rest ++ drop count (take most buf))
    → n ≡ min (min (length buf) piece) (length rest)
    → new ++ drop most buf ≡ take n rest ++ drop n buf
filled-piece piece rest buf new most n is_most filled is_n =
    let count : ℕ = min (length (take most buf)) (length rest) in
    let taken : length (take most buf) ≡ most = length-take-le most buf (omega arith) in
    let same : count ≡ n = omega arith in
    let within : count ≤ most = omega arith in
    let P : ℕ → Type 0 = λ k. new ++ drop most buf ≡ take k rest ++ drop k buf in
    subst P same (ap (λ front. front ++ drop most buf) filled
    ∙ append_assoc (take count rest) (drop count (take most buf)) (drop most buf)
    ∙ ap (λ behind. take count rest ++ behind) (drop-take-drop count most buf within (omega arith)))
