pub mod Ending
pub mod Extending
