-- The next mapping of a space, by the index.
pub mod NextMapping
pub mod NextPlace
pub mod NextAtDoor
