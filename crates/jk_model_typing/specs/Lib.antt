-- What frame types mean, what instructions make of them, and when a method has a typing.
pub mod FrameTypes
pub mod Groups
pub mod Rows
pub mod Scopes
pub mod Typing
