mod ItemLemmas
pub mod BitLemmas
mod SymbolLemmas
mod PackingLemmas
mod WidthLemmas
mod Laws
mod ListLaws
mod LogLaws
mod PeriodLaws
mod HeaderLaws
mod ByteLemmas
pub mod PartsLaws
pub mod LengthLaws
mod Examples
mod OutlineLemmas
pub mod ElementLemmas
mod LayerLemmas
mod DepthLemmas
mod OrderLemmas
mod LayerBits
mod SplitLemmas
mod PutLemmas
pub mod GapLaws
mod AscentLemmas
pub mod LayerLaws
pub mod LayerReadLaws
mod ReadLemmas
pub mod GridLemmas
mod AlongLemmas
mod AnchorLemmas
mod EntryLemmas
mod BlockLemmas
mod BlockPuttingLemmas
mod BlockOrderLemmas
mod BoundedLemmas
pub mod EntryLaws
pub mod BlockLaws
pub mod EntryOnlyLaws
pub mod BlockOnlyLaws
pub mod ObjectLaws
pub mod OutlineBlockLaws
pub mod OutlineLaws
pub mod StoredLaws
pub mod SettledLaws
mod SizeLemmas
mod BlockSizeLemmas
pub mod SizeLaws
pub mod OutlineExamples
