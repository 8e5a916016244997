pub mod Unmapping
