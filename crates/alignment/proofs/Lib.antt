pub mod Adding
pub mod Dividing
