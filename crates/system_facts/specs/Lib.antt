-- What is said of the records of system classes.
pub mod ClosedClasses
pub mod DescriptorReader
pub mod SystemLayouts
pub mod SystemTypes
