-- What holds of the world in which folders are loaded one after another.
pub mod WorldsAfterLoads
