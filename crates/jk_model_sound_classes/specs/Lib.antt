pub mod NamedMembers
pub mod SoundClasses
pub mod VerifiedMethods
