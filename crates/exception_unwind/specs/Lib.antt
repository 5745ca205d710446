-- What raising an object makes of the stores.
pub mod CaughtHere
pub mod Handlers
pub mod LeftFrames
pub mod RaisedObjects
pub mod Trials
pub mod UnwoundFrames
