-- What the tool leaves on what is lent.
pub mod Serving
