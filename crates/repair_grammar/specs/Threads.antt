-- Symbols of all blocks in one row, where a place that is taken out stays as a gap, and neighbours know each other.
-- Marks (`END`) and gaps (`GAP`) are above all symbols.
use Rattle.repair_grammar.specs.RePair.{replacement_count, block_after_pass}
use Rattle.std.specs.List.{Contains}
use Rattle.repair_grammar.specs.Counts.{stands_first}
use Rattle.repair_grammar.specs.Runs.{ends_odd}
use Rattle.repair_grammar.specs.declared.symbol_row.TheConstants.{END, GAP}
use Rattle.std.specs.Prelude.{◌≡◌, ℕ, ◌+◌, ◌<◌, ◌≤◌, Bool, true, false, ◌==◌, ◌&&◌, not, List, [], ◌∷◌, ◌++◌, length, filter, take, drop, slice_index_or, if◌then◌else◌}

-- the symbol at a place
abbrev pub at : List ℕ → ℕ → ℕ
at symbols place = slice_index_or symbols place GAP

-- the symbols that are left, in order
unfoldable pub live : List ℕ → List ℕ
live symbols = filter (λ symbol. not (symbol == GAP)) symbols

-- two places at which symbols stand, with gaps alone between them
pub record AreNeighbours (symbols : List ℕ) (left right : ℕ) : Type 0 where
  pub before : left < right
  pub within : right < length symbols
  pub left_stands : at symbols left < GAP
  pub right_stands : at symbols right < GAP
  pub gaps : (k : ℕ) → left < k → k < right → at symbols k ≡ GAP

-- from each place at which a symbol stands, but for the last and the first, next and previous lead to its neighbours
pub record AreThreads (symbols next previous : List ℕ) : Type 0 where
  pub few : length symbols < 4294967296
  pub words : (place : ℕ) → at symbols place < 4294967296
  pub nexts : length next ≡ length symbols
  pub previouses : length previous ≡ length symbols
  pub on : (place : ℕ) → place + 1 < length symbols → at symbols place < GAP →
      AreNeighbours symbols place (slice_index_or next place 0)
  pub back : (place : ℕ) → 0 < place → place < length symbols → at symbols place < GAP →
      AreNeighbours symbols (slice_index_or previous place 0) place

-- a mark that is no symbol stands at both ends
pub record HasEnds (symbols : List ℕ) : Type 0 where
  pub some : 0 < length symbols
  pub first : at symbols 0 ≡ END
  pub last : (place : ℕ) → place + 1 ≡ length symbols → at symbols place ≡ END

-- whether a test is turned
abbrev pub turned_by : Bool → Bool → Bool
turned_by odd test = if odd then not test else test

-- whether the pair stands at a place
unfoldable pub stands_at : List ℕ → ℕ × ℕ → ℕ → Bool
stands_at symbols pair place = not (at symbols place == GAP) && stands_first pair (live (drop place symbols))

-- what a pass from a place on leaves of the whole, where all before the place is done
abbrev pub passed_from : List ℕ → ℕ × ℕ → ℕ → ℕ → List ℕ
passed_from symbols pair symbol place = live (take place symbols) ++ block_after_pass pair symbol (live (drop place symbols))

-- the blocks in one row, with a mark before each and after the last
unfoldable pub marked_row : List (List ℕ) → List ℕ
marked_row [] = END ∷ []
marked_row (block ∷ blocks) = END ∷ block ++ marked_row blocks

-- a pair of symbols, without a mark
abbrev pub IsUnmarked : ℕ × ℕ → Type 0
IsUnmarked pair = (pair.0 < END) × (pair.1 < END)

-- the counts of all pairs of symbols, and for each the places at which it stands; the list may have others too
pub record IsCounted (symbols : List ℕ) (count : ℕ × ℕ → ℕ) (places : ℕ × ℕ → List ℕ) : Type 0 where
  pub counts : (pair : ℕ × ℕ) → IsUnmarked pair → count pair ≡ replacement_count pair (live symbols)
  pub noted : (pair : ℕ × ℕ) (k : ℕ) → IsUnmarked pair → stands_at symbols pair k ≡ true → Contains (places pair) k
  pub plain : (pair : ℕ × ℕ) → 0 < count pair → IsUnmarked pair

-- in the midst of a pass: what is before q is done, and the pair stands after it at places of the list alone
pub record IsPassing (first symbols : List ℕ) (pair : ℕ × ℕ) (c : ℕ) (places : List ℕ) (q : ℕ) : Type 0 where
  pub inside : q ≤ length symbols
  pub done : passed_from symbols pair c q ≡ block_after_pass pair c (live first)
  pub ahead : (k : ℕ) → stands_at symbols pair k ≡ true → (q ≤ k) × Contains places k
  pub new : (k : ℕ) → q ≤ k → (c == at symbols k) ≡ false

-- the neighbours of a place and of the one after it, and the symbols on both sides
pub record IsAround (symbols : List ℕ) (place left gone right before after : ℕ) : Type 0 where
  pub left_near : AreNeighbours symbols left place
  pub near : AreNeighbours symbols place gone
  pub next_near : AreNeighbours symbols gone right
  pub before_is : at symbols left ≡ before
  pub after_is : at symbols right ≡ after

-- the run of a symbol that ends before a place, where the place before stands for it: whether it is odd
pub record IsRun (symbols : List ℕ) (symbol done : ℕ) (odd : Bool) : Type 0 where
  pub last : (k : ℕ) → k + 1 ≡ done → at symbols k ≡ symbol
  pub parity : (k : ℕ) → k + 1 ≡ done → odd ≡ ends_odd symbol false (live (take done symbols))
