pub mod SettledParts
