-- In reading order.
pub mod Bytes
pub mod Numbers
pub mod Answers
