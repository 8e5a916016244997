-- What one command of a plan leaves.
pub mod Ran
