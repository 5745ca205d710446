-- What a method of a system class makes of the stores and of what domains share, and what it prints.
pub mod DoneRows
pub mod FoundArrays
pub mod GivenOnTop
pub mod HiddenNames
pub mod Magnitudes
pub mod MeaningsByPlace
pub mod MethodGroups
pub mod MethodsDone
pub mod SystemSteps
pub mod Wordings
