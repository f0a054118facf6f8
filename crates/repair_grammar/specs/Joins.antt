-- What one join changes, as the code finds it.
use Rattle.std.specs.Prelude.{ℕ, Bool, true, not, ◌&&◌, ◌==◌, nat_lt, if◌then◌else◌, Option, Some, None}
use Rattle.repair_grammar.specs.declared.symbol_row.SymbolRow.{SymbolRow}
use Rattle.repair_grammar.specs.Threads.{AreThreads, HasEnds}
use Rattle.repair_grammar.specs.declared.symbol_row.TheConstants.{END}

-- the threads of a row, and the marks at its ends
pub record IsSymbolRow (row : SymbolRow) : Type 0 where
  pub threads : AreThreads row.symbols.items row.next.items row.previous.items
  pub ends : HasEnds row.symbols.items

-- the pair of two symbols, if neither is a mark
unfoldable pub plain_of : ℕ → ℕ → Option (ℕ × ℕ)
plain_of x y = if nat_lt x END && nat_lt y END then Some (x, y) else None

-- the pair on the left that counts once less: x and a, or two a where the run that ends there is odd
unfoldable pub gone_left : Bool → ℕ → ℕ → ℕ → Option (ℕ × ℕ)
gone_left odd x a b = if x == a then (if not (a == b) && odd then Some (a, a) else None) else plain_of x a

-- the pair on the right that counts once less: b and y, or two b where the run that begins there is odd
unfoldable pub gone_right : Bool → ℕ → ℕ → ℕ → Option (ℕ × ℕ)
gone_right odd a b y = if y == b then (if not (a == b) && odd then Some (b, b) else None) else plain_of b y

-- an option, if a test holds
abbrev pub only_if : Bool → Option (ℕ × ℕ) → Option (ℕ × ℕ)
only_if test pair = if test then pair else None

-- whether the pair of x and the new symbol c counts: unless both are c, and the run of c before them is even
abbrev pub counts_left : Bool → ℕ → ℕ → Bool
counts_left odd x c = if x == c then odd else true
