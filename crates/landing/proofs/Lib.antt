pub mod Finding
pub mod Joining
