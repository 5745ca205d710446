-- The end of a domain in the parts of a kernel.
pub mod EndingLines
pub mod FollowingLines
pub mod TidyParts
