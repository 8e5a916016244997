-- Laws on lists that every crate above cites. It defines nothing about mappings, ranges or bytes.
pub mod Tests
pub mod Search
pub mod Each
pub mod Pairs
pub mod Sums
pub mod Below
pub mod Update
pub mod Checks
pub mod Ends
pub mod Counting
