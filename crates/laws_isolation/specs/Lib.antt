-- MAP, UNMAP, ALLOW_IOVAS and IOVA_RANGES depend on nothing but their space, the limit, the charge and the number of free mapping records.
pub mod Mappings
pub mod Devices
pub mod Placed
pub mod Told
pub mod Isolated
pub mod AtDoor
