pub mod Binding
pub mod Trimming
