-- What a plan's bytes mean, and where its parts end.
pub mod Plan
pub mod Ends
