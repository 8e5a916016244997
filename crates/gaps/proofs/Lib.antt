pub mod Meeting
pub mod Entering
pub mod Walking
