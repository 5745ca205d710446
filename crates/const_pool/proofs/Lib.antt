mod EntriesMakePool
mod EntryReadsBack
pub mod OnePool
