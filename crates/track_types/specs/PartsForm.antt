-- When the parts of an index have the form of one.
use Rattle.std.specs.Prelude.{◌≡◌, ℕ, suc, ◌+◌, ◌*◌, ◌^◌, ◌<◌, ◌≤◌, nat_le, true, List, length, All}
use Rattle.std.specs.List.{position_or_len, range_with_len}
use Rattle.std.specs.List.Sorted.{IsStrictlyIncreasing}
use Rattle.packed_bits.specs.Bits.{ones_of}
use Rattle.track_types.specs.Frame.{IsFrame, periods_of}
use Rattle.track_types.specs.Limits.{limit_of}
use Rattle.track_types.specs.Spelling.{packs_symbols, spelling_of}
use Rattle.track_types.specs.declared.limit.LimitKind.TheVariants.{Objects, Blocks, Symbols}
use Rattle.track_types.specs.declared.limit.TheConstants.{MAX_TREE}
use Rattle.track_types.specs.declared.parts.Parts.{Parts}
use Rattle.track_types.specs.declared.period_parts.PeriodParts.{PeriodParts}

-- each number is below 2^32
abbrev pub AreShort : List ℕ → Type 0
AreShort numbers = All (λ n. n < 2 ^ 32) numbers

-- each number is below 2^64
abbrev pub AreLong : List ℕ → Type 0
AreLong numbers = All (λ n. n < 2 ^ 64) numbers

-- both numbers of each pair are below 2^32
abbrev pub AreShortPairs : List (ℕ × ℕ) → Type 0
AreShortPairs pairs = All (λ pair. (pair.0 < 2 ^ 32) × (pair.1 < 2 ^ 32)) pairs

-- the least number of bits, from 1 on, in which so many symbols can be told apart; there are at most 2^26 of them
unfoldable pub width_for : ℕ → ℕ
width_for symbols = suc (position_or_len (λ width. nat_le symbols (2 ^ width)) (range_with_len 1 26))

-- how many bits a symbol takes where symbols take as few as they can
abbrev pub symbol_width : Parts → ℕ
symbol_width parts = width_for (length parts.alphabet + length parts.rules)

-- there is a presence bit for each object, and a period's lists are as long as these bits say
pub record IsShapedPeriod (objects : ℕ) (period : PeriodParts) : Type 0 where
  pub presence : length period.present ≡ objects
  pub offsets : length period.offsets ≡ ones_of period.present
  pub bits : length period.tree ≤ MAX_TREE
  pub lasts : length period.lasts ≡ ones_of period.present
  pub perm : length period.perm ≡ ones_of period.present
  pub lengths : length period.lengths ≡ ones_of period.present
  pub short_offsets : AreShort period.offsets
  pub short_perm : AreShort period.perm
  pub short_lengths : AreShort period.lengths

-- the header's numbers are in their ranges, objects and alphabet ascend, and each list is as long as the header says
pub record IsShaped (parts : Parts) : Type 0 where
  pub header : IsFrame parts.frame
  pub some : 1 ≤ length parts.objects
  pub few : length parts.objects ≤ limit_of Objects
  pub blocks : length parts.objects * periods_of parts.frame ≤ limit_of Blocks
  pub objects : IsStrictlyIncreasing parts.objects
  pub short_objects : AreShort parts.objects
  pub alphabet : IsStrictlyIncreasing parts.alphabet
  pub long_alphabet : AreLong parts.alphabet
  pub few_values : length parts.alphabet ≤ limit_of Symbols
  pub few_rules : length parts.rules ≤ limit_of Symbols
  pub short_rules : AreShortPairs parts.rules
  pub periods : length parts.periods ≡ periods_of parts.frame
  pub each : All (IsShapedPeriod (length parts.objects)) parts.periods
  pub few_symbols : length parts.symbols ≤ limit_of Symbols
  pub short_symbols : AreShort parts.symbols
  pub narrow_symbols : packs_symbols (spelling_of parts.frame.version) ≡ true →
      All (λ symbol. symbol < 2 ^ symbol_width parts) parts.symbols
