-- What the first line of a text is.
pub mod FirstLines
