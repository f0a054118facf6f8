-- The bits of a k2-tree, by the prefixes of sorted Morton numbers.
use Rattle.std.specs.Prelude.{ℕ, suc, ◌+◌, ◌*◌, ◌/◌, ◌^◌, ◌<◌, ◌≤◌, ◌==◌, Bool, List, [], ◌∷◌, ◌++◌}
use Rattle.std.specs.Prelude.{map, All}
use Rattle.std.specs.List.{dedup, flat_map, list_any, range_with_len}
use Rattle.track_types.specs.declared.limit.TheConstants.{MAX_HEIGHT}
use Rattle.k2_tree.specs.Widths.{fan, fan_of, digits_in}

-- whether the number is one of the list
abbrev pub is_in : List ℕ → ℕ → Bool
is_in codes code = list_any (λ other. other == code) codes

-- the prefixes of ascending Morton numbers that drop n digits, each once
unfoldable pub prefixes : ℕ → List ℕ → List ℕ
prefixes n codes = dedup (λ a b. a == b) (map (λ code. code / fan ^ n) codes)

-- the prefixes one level longer, of so many children each, whether they occur or not
unfoldable pub children_of_prefixes : ℕ → List ℕ → List ℕ
children_of_prefixes size codes = flat_map (λ p. range_with_len (size * p) size) codes

-- the level of this width whose squares have n digits below them: for each shorter prefix, whether each longer one
-- occurs
unfoldable pub level_bits : ℕ → ℕ → List ℕ → List Bool
level_bits width n codes = map (is_in (prefixes n codes)) (children_of_prefixes (fan_of width) (prefixes (width + n) codes))

-- the bits of ascending Morton numbers with levels of these widths, level by level from the top
unfoldable pub morton_bits : List ℕ → List ℕ → List Bool
morton_bits [] codes = []
morton_bits (width ∷ widths) codes = level_bits width (digits_in widths) codes ++ morton_bits widths codes

-- the numbers are at least n, and each is above the one before
abbrev pub Rises : ℕ → List ℕ → Type 0
Rises n [] = Unit {0}
Rises n (x ∷ xs) = (n ≤ x) × Rises (suc x) xs

-- all Morton numbers are below this
abbrev pub code_limit : ℕ
code_limit = fan ^ MAX_HEIGHT

-- ascending Morton numbers of so many digits
pub record AreCodes (height : ℕ) (codes : List ℕ) : Type 0 where
  pub rising : Rises 0 codes
  pub small : All (λ code. code < fan ^ height) codes
