pub mod Storing
pub mod Looking
