mod Examples
mod FieldLemmas
mod PieceLemmas
mod ProgressLemmas
mod ReadingLemmas
mod RowsLemmas
mod TakenLemmas
