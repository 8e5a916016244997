pub mod Door
pub mod Says
pub mod Bounds
pub mod Lent
