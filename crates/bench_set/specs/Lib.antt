-- Document 01's bench set as one table of cases, with one statement over it, and as equations row by row; and what it does not ask of devices.
pub mod Rows
pub mod Computing
pub mod Cases
pub mod Says
pub mod Devices
