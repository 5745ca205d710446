-- The assembler's text: its lines and words, and which item a line is.
pub mod Finds
pub mod ItemParts
pub mod Items
pub mod LineFronts
pub mod Mnemonics
pub mod NumberForms
pub mod Numbers
pub mod Readings
pub mod Rows
pub mod Statements
pub mod Words
