-- Lemmas on pools that grow, on labels and code, and on the methods, members and lines of a class that is built.
pub mod ClassesInRange
pub mod ClassesInTurn
mod CodeBodies
pub mod CodesOfReadings
mod CompleteClass
mod ConstantsByEntries
mod EachSaidOnce
pub mod EmptyPool
mod ExceptionsBody
pub mod FarPlaces
mod FaultOfPools
pub mod FilePoolFits
mod GrownPool
mod IndexOfGrownPool
pub mod InstructionIsWritten
mod ItemsAdded
pub mod ItemsOfBoth
pub mod JumpsInReach
pub mod KeysByBytes
mod KeysByEntries
pub mod LabelsInTurn
mod LastPut
pub mod LaterPools
mod LinesGoOn
mod LinesTaken
pub mod ListsAgree
mod MethodAtItsEnd
mod MethodBegins
mod MethodLineByLine
mod NoRoomInFullPool
mod OutlinesInTurn
pub mod PlacesInTurn
mod PlacesOfHandlers
pub mod PlacesWithinCode
mod PutTakesConstant
pub mod SaysLater
mod SlotsInTurn
mod SoundReadings
pub mod SwitchIsWritten
pub mod TakesInTurn
mod TextsAssembled
pub mod WrittenInTurn
