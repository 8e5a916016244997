pub mod Fewest
pub mod Free
pub mod From
pub mod Scanning
