-- What it is that a question has an answer, and which questions do.
pub mod Decisions
pub mod Findings
