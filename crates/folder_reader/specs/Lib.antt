pub mod AskedOnce
pub mod Calls
pub mod FolderAnswers
pub mod Listings
pub mod Paths
pub mod Walks
