pub mod Reserving
pub mod Turning
pub mod Stepping
pub mod Writing
