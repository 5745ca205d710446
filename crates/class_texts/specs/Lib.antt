-- What contracts say of the texts of a pool.
pub mod EntryTexts
pub mod PoolTexts
