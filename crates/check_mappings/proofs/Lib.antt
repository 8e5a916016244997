pub mod Emptying
pub mod Skipping
pub mod Marking
pub mod Ruling
pub mod Straying
pub mod Passing
