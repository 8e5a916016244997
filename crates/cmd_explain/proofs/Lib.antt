pub mod Naming
pub mod Mapping
pub mod Copying
