pub mod Copiable
pub mod Copies
pub mod Examples
pub mod Followed
pub mod Reach
