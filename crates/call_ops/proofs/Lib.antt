-- Lemmas on what a call finds, what it comes to and what follows it.
pub mod CallFound
pub mod CallsDone
pub mod CallsFollow
pub mod FramesBegin
pub mod SelectedIsMethod
pub mod TargetsByReceiver
