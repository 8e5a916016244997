pub mod Parting
pub mod Running
