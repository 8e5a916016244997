-- Runs of free addresses.
pub mod Runs
pub mod Longest
pub mod Worked
