-- When a header is in its ranges.
use Rattle.std.specs.Prelude.{◌≡◌, ◌*◌, ◌≤◌, false}
use Rattle.std.specs.Int.{div_ceil}
use Rattle.track_types.specs.Frame.{IsFrame}
use Rattle.track_types.specs.Limits.{limit_of}
use Rattle.track_types.specs.Spelling.{greatest_height, holds_parts, spelling_of}
use Rattle.track_types.specs.declared.limit.LimitKind.TheVariants as limits
use Rattle.track_types.specs.declared.limit.TheConstants.{MAX_PERIOD}
use Rattle.track_types.specs.declared.spelling.Spelling.{Spelling}
use Rattle.index_format.specs.declared.header.Header.{Header}
use Rattle.index_format.specs.declared.header.Sizes.{Sizes}
use Rattle.index_format.specs.Spelling.{sizes_of}

-- the numbers of four bytes are in their ranges
pub record AreSizes (spelling : Spelling) (sizes : Sizes) : Type 0 where
  pub period : (1 ≤ sizes.period) × (sizes.period ≤ MAX_PERIOD)
  pub height : (1 ≤ sizes.height) × (sizes.height ≤ greatest_height spelling)
  pub objects : (1 ≤ sizes.objects) × (sizes.objects ≤ limit_of limits.Objects)
  pub span : (1 ≤ sizes.span) × (sizes.span ≤ limit_of limits.Span)
  pub blocks : sizes.objects * div_ceil sizes.span sizes.period ≤ limit_of limits.Blocks
  pub alphabet : sizes.alphabet ≤ limit_of limits.Symbols
  pub rules : sizes.rules ≤ limit_of limits.Symbols
  pub symbols : sizes.symbols ≤ limit_of limits.Symbols
  pub untold : holds_parts spelling ≡ false → sizes.symbols ≡ 0

-- a header in its ranges
pub record IsHeader (header : Header) : Type 0 where
  pub frame : IsFrame header.frame
  pub sizes : AreSizes (spelling_of header.frame.version) (sizes_of header)
