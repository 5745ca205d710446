-- Lemmas on lists made item by item, on names and descriptors of the table, and on the parts of a record.
mod ClassesByName
mod ClassesInFront
mod DescriptorsAreKnown
mod ItemByItem
mod RecordOfAClass
mod RecordsOfMembers
