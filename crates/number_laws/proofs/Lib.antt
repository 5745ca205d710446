-- What rows of instructions on numbers keep of the types of frames and results.
pub mod EachOpcode
pub mod EntriesExchanged
pub mod FrameParts
pub mod HeadsStay
pub mod JumpsGoOn
pub mod ResultsFit
pub mod SlotsOfValues
pub mod TypesKept
pub mod ValuesAbove
pub mod ValuesFit
