-- What one step of a segment makes of the stores and of what domains share, and what it comes to.
pub mod ActingSegments
pub mod CallsOnSystem
pub mod FollowedCalls
pub mod InFrameTurns
pub mod Initialisers
pub mod LeavingSegments
pub mod Meetings
pub mod RaisingHere
pub mod Returning
pub mod StandingTops
pub mod StepsAlone
pub mod StepsInTurn
pub mod StepsThatLeave
