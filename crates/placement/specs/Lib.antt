-- Where an automatic mapping goes: candidates, the lowest of them, and the search that finds it.
pub mod Candidates
pub mod Lowest
pub mod Jumps
pub mod Worked
pub mod Sweeping
pub mod Passes
