use Rattle.std.proofs.Common.{◌≡◌, ℕ, ◌+◌, ◌<◌, List, [], ◌∷◌, ◌++◌, drop, get_or, length, arith, sym, ◌∙◌, ap, add-one, append_assoc}
use Rattle.std.proofs.lemmas.List.{append-nil, drop_all}
use Rattle.std.proofs.Math.Seq.{drop-cons}
use Rattle.repair_grammar.proofs.RowLemmas.{lengths_after, lengths_after-none, lengths_after-end, lengths_after-gap, lengths_after-more, lengths_after-all}
use Rattle.repair_grammar.proofs.rows.lengths_in.Goals as goal

-- the symbol at a place of the rest, and those behind it
parted : (rest : List ℕ) (i : ℕ) → i < length rest → drop i rest ≡ get_or rest i 0 ∷ drop (i + 1) rest
parted rest i within = rw add-one (drop-cons rest i 0 within)

pub symbols-preserved-then-symbol : goal.symbols-preserved-then-symbol
symbols-preserved-then-symbol c =
    let rest : List ℕ = c.in-Some.rest.now in
    let i : ℕ = c.symbols.symbol-index in
    let lengths : List ℕ = c.symbols.lengths.items in
    record {
      all = rw c.in_ok-push.ensures.items
          (append_assoc lengths (c.symbols.len ∷ []) (lengths_after 0 (drop (i + 1) rest))
          ∙ ap (λ xs. lengths ++ xs)
          (sym (lengths_after-end c.symbols.len (get_or rest i 0) (drop (i + 1) rest) c.if-symbol.true))
          ∙ ap (λ xs. lengths ++ lengths_after c.symbols.len xs) (sym (parted rest i c.symbols-test.true))
          ∙ c.symbols.invariant.all);
      short = omega arith;
    }

pub symbols-preserved-then-symbol-2 : goal.symbols-preserved-then-symbol-2
symbols-preserved-then-symbol-2 c =
    let rest : List ℕ = c.in-Some.rest.now in
    let i : ℕ = c.symbols.symbol-index in
    record {
      all = ap (λ xs. c.symbols.lengths.items ++ xs)
          (sym (lengths_after-gap c.symbols.len (get_or rest i 0) (drop (i + 1) rest) c.if-symbol.false
          c.if-symbol-2.true))
          ∙ ap (λ xs. c.symbols.lengths.items ++ lengths_after c.symbols.len xs)
          (sym (parted rest i c.symbols-test.true)) ∙ c.symbols.invariant.all;
      short = omega (arith, c.symbols.invariant.short);
    }

pub symbols-preserved : goal.symbols-preserved
symbols-preserved c =
    let rest : List ℕ = c.in-Some.rest.now in
    let i : ℕ = c.symbols.symbol-index in
    record {
      all = ap (λ xs. c.symbols.lengths.items ++ xs)
          (sym (lengths_after-more c.symbols.len (get_or rest i 0) (drop (i + 1) rest) c.if-symbol.false
          c.if-symbol-2.false))
          ∙ ap (λ xs. c.symbols.lengths.items ++ lengths_after c.symbols.len xs)
          (sym (parted rest i c.symbols-test.true)) ∙ c.symbols.invariant.all;
      short = omega (arith, c.symbols.invariant.short);
    }

pub overflow_add-len : goal.overflow_add-len
overflow_add-len c = omega (
  arith,
  c.symbols.invariant.short,
  c.symbols-test.true,
  ap length c.in-Some.ensures.cases.0,
  c.requires.few,
)

pub returns : goal.returns
returns c = λ blocks below is.
    let rest : List ℕ = c.in-Some.rest.now in
    let lengths : List ℕ = c.symbols.lengths.items in
    let none : drop c.symbols.symbol-index rest ≡ [] = drop_all c.symbols.symbol-index rest c.symbols-test.false in
    sym (append-nil lengths) ∙ ap (λ xs. lengths ++ xs) (sym (lengths_after-none c.symbols.len))
    ∙ ap (λ xs. lengths ++ lengths_after c.symbols.len xs) (sym none) ∙ c.symbols.invariant.all
    ∙ lengths_after-all blocks c.args.row.now rest c.in-Some.field-0-0.now c.in-Some.ensures.cases.0 c.requires.ends below is
