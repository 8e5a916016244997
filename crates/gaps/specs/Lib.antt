-- The gaps of a space: what blocks a place, seen through the index, and the steps of a walk over it.
pub mod Blocked
pub mod Steps
