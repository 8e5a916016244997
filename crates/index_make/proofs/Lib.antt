pub mod Counting
pub mod Firsts
pub mod Entering
