-- What the private functions say of words, options and answers.
pub mod Answers
pub mod Commands
pub mod Numbers
pub mod Options
pub mod StartWords
