pub mod GivenIsLaidOut
pub mod OneAfterAnother
pub mod OneListRead
