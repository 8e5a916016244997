pub mod Climbing
pub mod Walking
pub mod Behind
pub mod Agreed
