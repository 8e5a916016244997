-- The index of the mapping records (L9): what it lists, that there is one, what a list in order tells from one place, that it follows every change, and the verdict without pairs.
pub mod Listing
pub mod Agreeing
pub mod Touched
pub mod Following
pub mod Runs
pub mod Counted
pub mod Verdict
pub mod Boards
