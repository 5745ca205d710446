-- The reader of descriptors reads each text back into the type of which it is written, and the records of system classes have the
-- types that it reads, the fields that the table lists, and nothing below those that are closed.
pub mod TypesRead
pub mod SystemEntries
pub mod FieldsListed
pub mod ClosedAreLowest
