-- Which of the rules C1 to C17 a file breaks first.
pub mod FirstRule
