pub mod LinkedWorlds
pub mod NamesAndTypes
