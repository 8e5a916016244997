pub mod Staging
pub mod Making
pub mod Deciding
