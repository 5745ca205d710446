-- Lemmas on calls: which methods the examples' classes select, and that all is determined.
mod OneOutcome
pub mod OneSelected
mod PackagesOfExamples
mod ReceiversOfExamples
mod SelectedMethods
