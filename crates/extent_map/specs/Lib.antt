-- What contracts see of a map of extents, and of its free runs.
pub mod MapState
pub mod RunState
pub mod Runs
pub mod Starts
pub mod Steps
