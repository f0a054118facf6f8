-- How each version of the format writes an index file: all in which the versions differ.
use Rattle.std.specs.Prelude.{ℕ, zero, suc, ◌/◌, Bool, true, false}
use Rattle.track_types.specs.declared.limit.TheConstants.{MAX_HEIGHT, MAX_NARROW_HEIGHT}
use Rattle.track_types.specs.declared.spelling.Spelling.{Spelling}
use Rattle.track_types.specs.declared.spelling.Spelling.TheVariants.{Parts, PackedParts, Outline}

-- how a version writes; a number below the first version is taken for it, and one above the newest for that
abbrev pub spelling_of : ℕ → Spelling
spelling_of zero = Parts
spelling_of (suc zero) = Parts
spelling_of (suc (suc zero)) = PackedParts
spelling_of (suc (suc (suc more))) = Outline

-- whether a file holds the parts of an index, and its header how many symbols the logs have; else the file holds an outline
abbrev pub holds_parts : Spelling → Bool
holds_parts Parts = true
holds_parts PackedParts = true
holds_parts Outline = false

-- whether a symbol takes as few bits as tell all symbols apart, and not four bytes
abbrev pub packs_symbols : Spelling → Bool
packs_symbols Parts = false
packs_symbols PackedParts = true
packs_symbols Outline = true

-- how many levels of a tree of a height, from the top, split a square in sixteen
abbrev pub wide_levels : Spelling → ℕ → ℕ
wide_levels Parts height = 0
wide_levels PackedParts height = height / 4
wide_levels Outline height = height / 4

-- the greatest height of a tree
abbrev pub greatest_height : Spelling → ℕ
greatest_height Parts = MAX_NARROW_HEIGHT
greatest_height PackedParts = MAX_HEIGHT
greatest_height Outline = MAX_HEIGHT
