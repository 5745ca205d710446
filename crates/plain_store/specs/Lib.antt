-- The objects of domains as headers and payload: what they stand for, how they fit each other, and what calls do.
pub mod Headers
pub mod HeapMoves
pub mod NumberedObjects
pub mod Pieces
pub mod StoreContents
pub mod StoreIsContent
pub mod StoredObjects
