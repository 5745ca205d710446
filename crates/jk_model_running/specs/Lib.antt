pub mod Executions
pub mod Initialising
pub mod LocalSteps
pub mod Raising
pub mod StepCases
pub mod Ways
