-- What is known of the order of types and frames.
pub mod HeightsAreBounded
mod HeightsFall
mod JoinsOfTypes
mod NearestClass
pub mod OrderOfFrames
pub mod OrderOfTypes
pub mod RaisedByPlaces
mod UsableStacks
