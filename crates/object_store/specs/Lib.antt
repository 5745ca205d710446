pub mod HeapContents
