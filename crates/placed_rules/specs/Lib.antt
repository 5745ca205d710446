pub mod Codes
pub mod FirstFiles
pub mod PlacedFaults
