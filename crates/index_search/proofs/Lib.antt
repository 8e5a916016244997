pub mod Halving
pub mod Telling
pub mod Adding
pub mod Running
pub mod Shifting
pub mod Numbering
pub mod Changing
pub mod Spanning
