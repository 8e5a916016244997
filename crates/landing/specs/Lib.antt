-- Where a new mapping lands.
pub mod Placing
pub mod Landed
