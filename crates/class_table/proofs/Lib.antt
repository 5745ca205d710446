-- What is known of classes in order, and of the lists that are made from them.
pub mod ClassesThatStay
pub mod EntriesAreRight
pub mod FieldsByPlace
pub mod FirstsByInsertion
pub mod HeightsAreEnough
pub mod LayoutsBegin
pub mod MembersAreFew
pub mod OneClassMore
pub mod OwnPlacesGrow
pub mod ReadingIsRight
pub mod StandingAbove
pub mod StepsUp
pub mod SystemClassesInTurn
pub mod TableIsKept
pub mod WalkOfNew
