-- Laws on codes over some of their locals, and the list of those that are kept.
pub mod KeptByList
pub mod KeptMarks
pub mod LocalsNarrowed
pub mod LocalsWidened
pub mod RowsWidened
pub mod ShapesRenamed
pub mod TypingsWidened
