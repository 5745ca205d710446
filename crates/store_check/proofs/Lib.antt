-- What the tests' calls ask.
mod TextWritten
