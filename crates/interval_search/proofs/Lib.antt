-- The hits of rows, object by object, and the search for them.
pub mod HitLemmas
mod ListingLemmas
mod FirstLemmas
mod OrderLemmas
mod CostLemmas
mod Examples
