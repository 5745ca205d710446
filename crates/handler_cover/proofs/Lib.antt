-- What is known of trees of entries and of how they are built.
pub mod EntriesInTurn
pub mod LevelsHalve
pub mod NodesByPlace
pub mod RangesTakenApart
