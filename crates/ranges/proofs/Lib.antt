pub mod Pages
pub mod Spans
