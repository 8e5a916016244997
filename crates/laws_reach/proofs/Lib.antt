pub mod Found
pub mod Reach
pub mod Lent
