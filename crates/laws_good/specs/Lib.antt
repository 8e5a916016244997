-- "No call makes a bad table out of a good one" and "A call on one space changes no mapping, list or device of another" (document 01), call by call; and the alignment that a space has after an attach.
pub mod SpaceKept
pub mod SpaceApart
pub mod SpaceGood
pub mod DeviceKept
pub mod DeviceApart
pub mod HostGood
pub mod MappingKept
pub mod MappingGood
pub mod Aligned
