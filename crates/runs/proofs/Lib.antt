pub mod Freeing
