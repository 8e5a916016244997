-- What comes before every call, and what it hands on.
pub mod Known
