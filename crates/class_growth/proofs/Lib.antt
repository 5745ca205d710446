-- What more classes, and other links, leave as it is. The kernel cites these lemmas by import.
pub mod ItemsOfLists
pub mod RecordsAgree
pub mod WalksAgree
pub mod MembersFound
pub mod MoreClasses
pub mod TypesKept
pub mod ValuesKept
pub mod ScopesKept
pub mod ShapesKept
pub mod RowsKept
pub mod TypingsKept
pub mod LayoutsKept
pub mod ClosedClassesKept
pub mod LinksDontMatter
pub mod OwnStatesKept
pub mod StubsKept
pub mod SystemClassesClosed
