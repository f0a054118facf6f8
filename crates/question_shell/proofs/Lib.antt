pub mod LineLemmas
pub mod KeptLemmas
pub mod GrammarLemmas
pub mod LayoutLemmas
pub mod SaysLemmas
pub mod TurnLemmas
pub mod CountLemmas
pub mod DeskLemmas
pub mod DrawingLemmas
pub mod SlotLemmas
pub mod SessionLemmas
pub mod RunLemmas
mod Examples
