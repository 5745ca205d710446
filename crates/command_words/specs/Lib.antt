-- What the words after the program's name call for.
pub mod CommandLine
