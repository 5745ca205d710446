pub mod FirstOfFiles
pub mod JudgedFiles
pub mod ReadFiles
pub mod ReadingsOfFiles
