-- The reserved ranges of a space, slot by slot.
pub mod Gathered
pub mod Covers
