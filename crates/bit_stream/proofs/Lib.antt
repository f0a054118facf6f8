-- Laws of bits in bytes and of numbers in bits, for callers.
pub mod BytesLemmas
pub mod NumberLaws
pub mod ReaderLemmas
pub mod WriterLemmas
mod Examples
