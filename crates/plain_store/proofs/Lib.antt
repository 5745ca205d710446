-- Lemmas on the heap of one domain, and on the map of all heaps.
mod FieldZeros
mod HeapGrows
mod HeapIsMarked
mod HeapIsWritten
mod ItemsOfObjects
mod NewPayloads
mod WrittenAt
mod StoreChanges
