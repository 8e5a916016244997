pub mod Leaves
pub mod Touching
