-- Lemmas on the order of paths, on the first class that breaks a rule, and on the parts of the rules.
pub mod PathsInOrder
pub mod FirstClass
pub mod WalksOverItems
pub mod MethodsCounted
pub mod NumbersOfClasses
pub mod GoesAlongByHome
pub mod OffersClassByClass
pub mod StaticFields
pub mod SilentMethods
pub mod RemoteInterfaces
pub mod EncodingsKeepOrder
pub mod Utf8KeepsOrder
pub mod Utf16KeepsOrder
