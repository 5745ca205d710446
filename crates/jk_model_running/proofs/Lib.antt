-- That the cases of a local step exclude one another.
pub mod NeededClasses
mod StepsByCase
