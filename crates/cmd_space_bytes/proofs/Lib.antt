pub mod Deciding
pub mod Replying
