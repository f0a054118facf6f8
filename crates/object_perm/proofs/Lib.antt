pub mod FlawLemmas
pub mod InverseLemmas
pub mod OntoLemmas
pub mod WalkLemmas
mod CycleWalk
mod SeenLemmas
mod CycleLemmas
mod CycleEndLemmas
mod SettledLemmas
mod MarksLemmas
mod PackLemmas
mod SearchLemmas
mod Examples
