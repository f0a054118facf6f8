-- Where logs begin, one after another.
use Rattle.std.proofs.Common.{◌≡◌, ℕ, ◌+◌, ◌<◌, List, [], ◌∷◌, ◌++◌, get_or, length, map, take, ap, sym, ◌∙◌, arith}
use Rattle.std.specs.Prelude.{sum}
use Rattle.std.specs.List.{range_with_len}
use Rattle.std.proofs.lemmas.List.Sums.{sum_by_more}
use Rattle.std.proofs.lemmas.List.FromFn.{map-range_with_len_more}

-- one log more
pub starts-more : (start : ℕ) (lengths starts new : List ℕ) (n next : ℕ)
    → starts ≡ map (λ rank. start + sum (take rank lengths)) (range_with_len 0 n) → next ≡ start + sum (take n lengths)
    → new ≡ starts ++ next ∷ [] → new ≡ map (λ rank. start + sum (take rank lengths)) (range_with_len 0 (n + 1))
starts-more start lengths starts new n next begun is pushed =
    pushed ∙ ap (λ xs. xs ++ next ∷ []) begun
    ∙ ap (λ x. map (λ rank. start + sum (take rank lengths)) (range_with_len 0 n) ++ x ∷ []) is
    ∙ sym (map-range_with_len_more (λ rank. start + sum (take rank lengths)) 0 n n (omega arith))

-- where the log after it begins
pub next-more : (start : ℕ) (lengths : List ℕ) (n next : ℕ) → n < length lengths → next ≡ start + sum (take n lengths)
    → next + get_or lengths n 0 ≡ start + sum (take (n + 1) lengths)
next-more start lengths n next within is = omega (arith, sum_by_more (λ x. x) lengths n 0 within)
