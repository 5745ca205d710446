pub mod AddedDomains
pub mod FirstFrames
pub mod FolderEvents
pub mod Joining
pub mod LoadedFolders
pub mod OpenedParts
pub mod StandingObjects
pub mod StartedThreads
