-- What the bench runner promises.
pub mod Shown
