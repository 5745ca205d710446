-- How each question is decided: by computing where it can be, and by searching otherwise. The lemmas on searches hold for any
-- decided predicate.
pub mod DecidedParts
pub mod DecidedTypes
pub mod DecidedRecords
pub mod MembersFound
pub mod ListsSearched
