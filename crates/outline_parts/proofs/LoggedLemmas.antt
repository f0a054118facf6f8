-- Blocks with the symbols of their logs: what is laid side by side, and what was laid end to end.
use Rattle.std.proofs.Common.{All, ◌≡◌, ℕ, List, [], ◌∷◌, ◌++◌, length, map, take, drop, refl, ap, ◌∙◌, arith}
use Rattle.std.specs.List.{flat_map, sum_by}
use Rattle.std.proofs.lemmas.List.{drop_at, length-drop, take-append-drop, take_at}
use Rattle.std.proofs.lemmas.List.Elements.{All-head, All-tail}
use Rattle.std.proofs.lemmas.List.Sums.{sum_by-cons}
use Rattle.index_format.specs.IsOutline.{blocks_with_logs}
use Rattle.index_format.specs.declared.outline.OutlineBlock.{OutlineBlock}

-- how many symbols the logs of blocks have
abbrev pub block_length : OutlineBlock → ℕ
block_length block = block.length

-- the blocks are the same
pub blocks-logged : (blocks : List OutlineBlock) (symbols : List ℕ) →
    map (λ it. it.0) (blocks_with_logs blocks symbols) ≡ blocks
unfolding blocks_with_logs
blocks-logged [] symbols = refl
blocks-logged (block ∷ blocks) symbols = ap (λ rest. block ∷ rest) (blocks-logged blocks (drop block.length symbols))

-- and so are the symbols, where the logs' lengths add up to their number
pub symbols-logged : (blocks : List OutlineBlock) (symbols : List ℕ) → sum_by block_length blocks ≡ length symbols →
    flat_map (λ it. it.1) (blocks_with_logs blocks symbols) ≡ symbols
unfolding blocks_with_logs
symbols-logged [] [] all = refl
symbols-logged [] (symbol ∷ symbols) all = absurd (omega arith)
symbols-logged (block ∷ blocks) symbols all =
    let left = length-drop block.length symbols in
    let more = sum_by-cons block_length block blocks in
    ap (λ rest. take block.length symbols ++ rest)
    (symbols-logged blocks (drop block.length symbols) (omega (arith, left, more)))
    ∙ take-append-drop block.length symbols

-- blocks with their logs, once these are laid end to end, are told again
pub logged-again : (its : List (OutlineBlock × List ℕ)) → All (λ it. length it.1 ≡ it.0.length) its →
    blocks_with_logs (map (λ it. it.0) its) (flat_map (λ it. it.1) its) ≡ its
unfolding blocks_with_logs
logged-again [] each = refl
logged-again (it ∷ its) each =
    let long : length it.1 ≡ it.0.length = All-head (λ one. length one.1 ≡ one.0.length) it its each in
    let rest = flat_map (λ one. one.1) its in
    rw (take_at it.1 rest it.0.length long, drop_at it.1 rest it.0.length long)
    (ap (λ all. it ∷ all) (logged-again its (All-tail (λ one. length one.1 ≡ one.0.length) it its each)))

-- the logs' lengths add up to the number of symbols
pub total-logged : (its : List (OutlineBlock × List ℕ)) → All (λ it. length it.1 ≡ it.0.length) its →
    sum_by block_length (map (λ it. it.0) its) ≡ sum_by (λ it. length it.1) its
total-logged [] each = refl
total-logged (it ∷ its) each =
    let long : length it.1 ≡ it.0.length = All-head (λ one. length one.1 ≡ one.0.length) it its each in
    omega (
      arith,
      long,
      sum_by-cons block_length it.0 (map (λ one. one.0) its),
      sum_by-cons (λ (one : OutlineBlock × List ℕ). length one.1) it its,
      total-logged its (All-tail (λ one. length one.1 ≡ one.0.length) it its each),
    )
