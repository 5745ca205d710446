-- What the contracts of joins say of locals, stacks and frames.
pub mod FrameJoins
pub mod FrameViews
pub mod Heights
pub mod TypesAbove
