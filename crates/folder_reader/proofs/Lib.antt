-- What is known of the files of a folder, and of the walk that finds them.
pub mod AsksApart
pub mod CallsInTurn
pub mod CountsTaken
pub mod ItemsOfLists
pub mod NoMoreThanFound
pub mod PathsInOrder
pub mod PathsTellNames
pub mod ToldOrNot
pub mod WalkGoesOn
pub mod WholeWalk
