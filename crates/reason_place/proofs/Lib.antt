pub mod Seeking
pub mod Shortness
pub mod Telling
