-- Blocks in one row: a pair counts in the row what it counts in the blocks, and a pass leaves the row of what it leaves.
use Rattle.std.proofs.Common.{◌≡◌, ◌≢◌, ℕ, zero, suc, ◌+◌, ◌<◌, ◌==◌, false, true, ltb, if◌then◌else◌, List, [], ◌∷◌, ◌++◌, length, drop, filter, map, refl, sym, ◌∙◌, ap, arith, inl, inr, append_assoc, zero-add}
use Rattle.std.specs.List.{AllByRecursion, flat_map}
use Rattle.std.proofs.lemmas.Bool.{cases_Bool, and_right, eqb-true, eq-eqb, lt-ltb, ne_eqb}
use Rattle.std.proofs.lemmas.List.{get_or_past, get_or_push, length-append}
use Rattle.std.proofs.lemmas.List.Sums.{sum_by-cons}
use Rattle.std.proofs.lemmas.Bool.Decides.{nat_tests}
use Rattle.repair_grammar.specs.RePair.{is_pair, replacement_count, block_after_pass, pair_count, AreBelow}
use Rattle.repair_grammar.specs.Threads.{at, live, marked_row, HasEnds}
use Rattle.repair_grammar.proofs.PassLemmas.{replacement_count-none, replacement_count-other, block_after_pass-none}
use Rattle.repair_grammar.proofs.ThreadLemmas.{live_first}
use Rattle.repair_grammar.specs.declared.symbol_row.TheConstants.{END, GAP}

row-cons : (blocks : List (List ℕ)) → (rest : List ℕ) × (marked_row blocks ≡ END ∷ rest)
unfolding marked_row
row-cons [] = ([], refl)
row-cons (block ∷ blocks) = (block ++ marked_row blocks, refl)

module _ (pair : ℕ × ℕ) (left : pair.0 < END) (right : pair.1 < END) where
  not_left : (END == pair.0) ≡ false
  not_left = ne_eqb END pair.0 (λ same. omega (arith, same, left))

  not_right : (x : ℕ) → is_pair pair x END ≡ false
  not_right x = let none : (END == pair.1) ≡ false =
      ne_eqb END pair.1 (λ same. omega (arith, same, right)) in rw none (and_right (x == pair.0) false refl)

  replacement_count-mark : (rest : List ℕ) → replacement_count pair (END ∷ rest) ≡ replacement_count pair rest
  replacement_count-mark rest = replacement_count-other pair END rest not_left

  replacement_count-block : (block rest : List ℕ) → replacement_count pair (block ++ END ∷ rest) ≡ replacement_count pair block + replacement_count pair rest
  unfolding replacement_count
  replacement_count-block [] rest = omega (arith, replacement_count-mark rest)
  replacement_count-block (x ∷ []) rest = rw (not_right x) (omega (arith, replacement_count-mark rest))
  replacement_count-block (x ∷ y ∷ block) rest =
      grind (arith, nat_tests, replacement_count-block block rest, replacement_count-block (y ∷ block) rest)

  -- the count over the row
  pub replacement_count-row : (blocks : List (List ℕ)) → replacement_count pair (marked_row blocks) ≡ pair_count blocks pair
  unfolding marked_row pair_count
  replacement_count-row [] = replacement_count-mark [] ∙ replacement_count-none pair
  replacement_count-row (block ∷ blocks) = let tail = row-cons blocks in
      replacement_count-mark (block ++ marked_row blocks)
      ∙ ap (λ row. replacement_count pair (block ++ row)) tail.1
      ∙ replacement_count-block block tail.0
      ∙ ap (λ n. replacement_count pair block + n) (sym (replacement_count-mark tail.0) ∙ ap (replacement_count pair) (sym tail.1) ∙ replacement_count-row blocks)
      ∙ omega (arith, sum_by-cons (replacement_count pair) block blocks)

  module _ (symbol : ℕ) where
    block_after_pass-mark : (rest : List ℕ) →
        block_after_pass pair symbol (END ∷ rest) ≡ END ∷ block_after_pass pair symbol rest
    unfolding block_after_pass
    block_after_pass-mark [] = refl
    block_after_pass-mark (x ∷ rest) = rw not_left refl

    block_after_pass-block : (block rest : List ℕ) → block_after_pass pair symbol (block ++ END ∷ rest)
        ≡ block_after_pass pair symbol block ++ END ∷ block_after_pass pair symbol rest
    unfolding block_after_pass
    block_after_pass-block [] rest = block_after_pass-mark rest
    block_after_pass-block (x ∷ []) rest = rw (not_right x) (ap (λ tail. x ∷ tail) (block_after_pass-mark rest))
    block_after_pass-block (x ∷ y ∷ block) rest =
        grind (arith, nat_tests, block_after_pass-block block rest, block_after_pass-block (y ∷ block) rest)

    -- the pass through the row
    pub block_after_pass-row : (blocks : List (List ℕ)) →
        block_after_pass pair symbol (marked_row blocks) ≡ marked_row (map (block_after_pass pair symbol) blocks)
    unfolding marked_row
    block_after_pass-row [] = block_after_pass-mark [] ∙ ap (λ rest. END ∷ rest) (block_after_pass-none pair symbol)
    block_after_pass-row (block ∷ blocks) = let tail = row-cons blocks in
        block_after_pass-mark (block ++ marked_row blocks)
        ∙ ap (λ rest. END ∷ rest) (ap (λ row. block_after_pass pair symbol (block ++ row)) tail.1
        ∙ block_after_pass-block block tail.0
        ∙ ap (λ row. block_after_pass pair symbol block ++ row) (sym (block_after_pass-mark tail.0)
        ∙ ap (block_after_pass pair symbol) (sym tail.1) ∙ block_after_pass-row blocks))

-- the row of no block, and of one more
pub row_none : marked_row [] ≡ END ∷ []
unfolding marked_row
row_none = refl

pub row_more : (front block : List ℕ) (blocks : List (List ℕ)) →
    ((front ++ END ∷ []) ++ block) ++ marked_row blocks ≡ front ++ marked_row (block ∷ blocks)
unfolding marked_row
row_more front block blocks = append_assoc (front ++ END ∷ []) block (marked_row blocks)
    ∙ append_assoc front (END ∷ []) (block ++ marked_row blocks)

-- how long the blocks of a row with gaps are, where a block was begun that has so many symbols
pub lengths_after : ℕ → List ℕ → List ℕ
lengths_after len [] = []
lengths_after len (x ∷ xs) = if x == END then len ∷ lengths_after 0 xs
    else if x == GAP then lengths_after len xs else lengths_after (len + 1) xs

pub lengths_after-none : (len : ℕ) → lengths_after len [] ≡ []
unfolding lengths_after
lengths_after-none len = refl

module _ (len x : ℕ) (xs : List ℕ) where
  pub lengths_after-end : x ≡ END → lengths_after len (x ∷ xs) ≡ len ∷ lengths_after 0 xs
  unfolding lengths_after
  lengths_after-end is = rw (eq-eqb x END is) refl

  pub lengths_after-gap : x ≢ END → x ≡ GAP → lengths_after len (x ∷ xs) ≡ lengths_after len xs
  unfolding lengths_after
  lengths_after-gap apart is = rw (ne_eqb x END apart, eq-eqb x GAP is) refl

  pub lengths_after-more : x ≢ END → x ≢ GAP → lengths_after len (x ∷ xs) ≡ lengths_after (len + 1) xs
  unfolding lengths_after
  lengths_after-more apart symbol = rw (ne_eqb x END apart, ne_eqb x GAP symbol) refl

-- gaps make no difference
lengths_after-live : (len : ℕ) (xs : List ℕ) → lengths_after len (live xs) ≡ lengths_after len xs
unfolding lengths_after live
lengths_after-live len [] = refl
lengths_after-live len (x ∷ xs) =
    grind (arith, nat_tests, lengths_after-live 0 xs, lengths_after-live len xs, lengths_after-live (len + 1) xs)

-- a block, and all of them
lengths_after-block : (len : ℕ) (block rest : List ℕ) → AllByRecursion (λ symbol. symbol < END) block →
    lengths_after len (block ++ END ∷ rest) ≡ (len + length block) ∷ lengths_after 0 rest
lengths_after-block len [] rest below = lengths_after-end len END rest refl
    ∙ ap (λ n. n ∷ lengths_after 0 rest) (omega arith)
lengths_after-block len (x ∷ block) rest below =
    grind (arith, nat_tests, lengths_after-block (len + 1) block rest below.1, lengths_after-more)

lengths_after-row : (blocks : List (List ℕ)) (tail : List ℕ) → AreBelow END blocks → marked_row blocks ≡ END ∷ tail →
    lengths_after 0 tail ≡ map length blocks
unfolding marked_row AreBelow
lengths_after-row [] tail below is = ap (lengths_after 0) (sym (ap (drop 1) is)) ∙ lengths_after-none 0
lengths_after-row (block ∷ blocks) tail below is =
    let rest = row-cons blocks in
    ap (lengths_after 0) (sym (ap (drop 1) is) ∙ ap (λ row. block ++ row) rest.1)
    ∙ lengths_after-block 0 block rest.0 below.0 ∙ ap (λ n. n ∷ lengths_after 0 rest.0) (zero-add (length block))
    ∙ ap (λ later. length block ∷ later) (lengths_after-row blocks rest.0 below.1 rest.1)

pub lengths_after-all : (blocks : List (List ℕ)) (row rest : List ℕ) (first : ℕ) → row ≡ first ∷ rest → HasEnds row →
    AreBelow END blocks → live row ≡ marked_row blocks → lengths_after 0 rest ≡ map length blocks
lengths_after-all blocks row rest first whole ends below is =
    let mark : first ≡ END = sym (ap (λ xs. at xs 0) whole) ∙ ends.first in
    let tail = row-cons blocks in
    let later : live rest ≡ tail.0 = ap (drop 1) (sym (live_mark first rest mark) ∙ ap live (sym whole) ∙ is
    ∙ tail.1) in
    sym (lengths_after-live 0 rest) ∙ ap (lengths_after 0) later ∙ lengths_after-row blocks tail.0 below tail.1
  where
    live_mark : (first : ℕ) (rest : List ℕ) → first ≡ END → live (first ∷ rest) ≡ first ∷ live rest
    live_mark first rest mark = live_first first rest (ne_eqb first GAP (λ same. omega (arith, same, mark)))

-- the symbols of a row, without marks and gaps
abbrev pub unmarked : List ℕ → List ℕ
unmarked row = filter (λ symbol. ltb symbol END) row

unmarked-live : (row : List ℕ) → unmarked (live row) ≡ unmarked row
unfolding live
unmarked-live [] = refl
unmarked-live (x ∷ row) = grind (arith, nat_tests, unmarked-live row)

unmarked-block : (block rest : List ℕ) → AllByRecursion (λ symbol. symbol < END) block →
    unmarked (block ++ rest) ≡ block ++ unmarked rest
unmarked-block [] rest below = refl
unmarked-block (x ∷ block) rest below =
    let low : ltb x END ≡ true = lt-ltb x END below.0 in
    rw low (ap (λ symbols. x ∷ symbols) (unmarked-block block rest below.1))

unmarked-row : (blocks : List (List ℕ)) → AreBelow END blocks → unmarked (marked_row blocks) ≡ flat_map (λ block. block) blocks
unfolding marked_row AreBelow
unmarked-row [] below = refl
unmarked-row (block ∷ blocks) below =
    unmarked-block block (marked_row blocks) below.0 ∙ ap (λ rest. block ++ rest) (unmarked-row blocks below.1)

pub unmarked-all : (blocks : List (List ℕ)) (row : List ℕ) → AreBelow END blocks → live row ≡ marked_row blocks →
    unmarked row ≡ flat_map (λ block. block) blocks
unmarked-all blocks row below is = sym (unmarked-live row) ∙ ap unmarked is ∙ unmarked-row blocks below

-- a symbol that is in no block stands nowhere
new_block : (c : ℕ) (block rest : List ℕ) → AllByRecursion (λ symbol. symbol < c) block →
    AllByRecursion (λ symbol. (c == symbol) ≡ false) rest →
    AllByRecursion (λ symbol. (c == symbol) ≡ false) (block ++ rest)
new_block c [] rest below new = new
new_block c (x ∷ block) rest below new =
    (ne_eqb c x (λ same. omega (arith, same, below.0)), new_block c block rest below.1 new)

new_row : (c : ℕ) (blocks : List (List ℕ)) → c < END → AreBelow c blocks →
    AllByRecursion (λ symbol. (c == symbol) ≡ false) (marked_row blocks)
unfolding marked_row AreBelow
new_row c [] fits below = (ne_eqb c END (λ same. omega (arith, same, fits)), tt)
new_row c (block ∷ blocks) fits below = grind (arith, nat_tests, new_row c blocks fits below.1, new_block)

new_live : (c : ℕ) (symbols : List ℕ) → c < GAP →
    AllByRecursion (λ symbol. (c == symbol) ≡ false) (live symbols) → (k : ℕ) → (c == at symbols k) ≡ false
unfolding live
new_live c [] fits new k =
    let none : at [] k ≡ GAP = get_or_past [] k GAP (omega arith) in
    ne_eqb c (at [] k) (λ same. omega (arith, same, none, fits))
new_live c (x ∷ symbols) fits new k = elim (cases_Bool (x == GAP)) [
  | inl gap ↦ let later : AllByRecursion (λ symbol. (c == symbol) ≡ false) (live symbols) = rw gap at new in
      by k (ne_eqb c x (λ same. omega (arith, same, fits, eqb-true x GAP gap))) (new_live c symbols fits later)
  | inr symbol ↦ let all : AllByRecursion (λ symbol. (c == symbol) ≡ false) (x ∷ live symbols) = rw symbol at new in
      by k all.0 (new_live c symbols fits all.1)
]
  where
    by : (k : ℕ) → (c == x) ≡ false → ((j : ℕ) → (c == at symbols j) ≡ false) → (c == at (x ∷ symbols) k) ≡ false
    by zero here later = here
    by (suc j) here later = later j

pub new_symbols : (c : ℕ) (symbols : List ℕ) (blocks : List (List ℕ)) → c < END → AreBelow c blocks →
    live symbols ≡ marked_row blocks → (k : ℕ) → (c == at symbols k) ≡ false
new_symbols c symbols blocks fits below is =
    new_live c symbols (omega (arith, fits)) (rw is (new_row c blocks fits below))

-- every symbol of a row is a symbol or a mark, and marks stand at both ends
pub row_words : (limit : ℕ) (blocks : List (List ℕ)) → limit < END → AreBelow limit blocks →
    AllByRecursion (λ symbol. symbol < GAP) (marked_row blocks)
unfolding marked_row AreBelow
row_words limit [] fits below = (omega arith, tt)
row_words limit (block ∷ blocks) fits below =
    (omega arith, words_block limit block (marked_row blocks) fits below.0 (row_words limit blocks fits below.1))
  where
    words_block : (limit : ℕ) (block rest : List ℕ) → limit < END → AllByRecursion
        (λ symbol. symbol < limit) block →
        AllByRecursion (λ symbol. symbol < GAP) rest → AllByRecursion (λ symbol. symbol < GAP)
        (block ++ rest)
    words_block limit [] rest fits below words = words
    words_block limit (x ∷ block) rest fits below words =
        (omega (arith, below.0, fits), words_block limit block rest fits below.1 words)

pub word_at : (row : List ℕ) → AllByRecursion (λ symbol. symbol < GAP) row → (k : ℕ) → k < length row →
    at row k < GAP
word_at [] words k within = absurd (omega (arith, within))
word_at (x ∷ row) words zero within = words.0
word_at (x ∷ row) words (suc k) within = word_at row words.1 k (omega (arith, within))

row_front : (blocks : List (List ℕ)) → (front : List ℕ) × (marked_row blocks ≡ front ++ END ∷ [])
unfolding marked_row
row_front [] = ([], refl)
row_front (block ∷ blocks) = let later = row_front blocks in (
  END ∷ block ++ later.0,
  ap (λ row. END ∷ block ++ row) later.1
      ∙ ap (λ row. END ∷ row) (sym (append_assoc block later.0 (END ∷ []))),
)

pub row_ends : (blocks : List (List ℕ)) → HasEnds (marked_row blocks)
row_ends blocks =
    let tail = row-cons blocks in
    let front = row_front blocks in
    record {
      some = omega (arith, ap length tail.1);
      first = ap (λ row. at row 0) tail.1;
      last = λ place end.
          let mark : ℕ = END in
          ap (λ row. at row place) front.1
          ∙ get_or_push front.0 mark GAP place
          (omega (arith, end, ap length front.1, length-append front.0 (mark ∷ [])));
    }

-- symbols below a limit are below the marks
below_mark : (limit : ℕ) (block : List ℕ) → limit < END → AllByRecursion (λ symbol. symbol < limit) block →
    AllByRecursion (λ symbol. symbol < END) block
below_mark limit [] fits below = below
below_mark limit (x ∷ block) fits below = (omega (arith, below.0, fits), below_mark limit block fits below.1)

pub below_marks : (limit : ℕ) (blocks : List (List ℕ)) → limit < END → AreBelow limit blocks →
    AreBelow END blocks
unfolding AreBelow
below_marks limit [] fits below = below
below_marks limit (block ∷ blocks) fits below =
    (below_mark limit block fits below.0, below_marks limit blocks fits below.1)
