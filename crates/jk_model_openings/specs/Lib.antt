pub mod Examples
pub mod OpenedDomains
pub mod Openings
pub mod PoolsOfMachines
