pub mod ClassIsItsParts
pub mod OneRecord
pub mod RoomIsLeft
pub mod SlotsInTurn
