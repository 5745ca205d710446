-- The derivations of the worked examples and of the laws, and what crates above need of examples of their own.
mod CopiesByName
mod ExamplesCopiable
mod ExamplesReach
pub mod NamesDiffer
pub mod OneCost
pub mod OneObjectCopied
pub mod ReachIsWithin
