pub mod FileLaws
mod TableLaws
