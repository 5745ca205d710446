-- What the contracts and the invariants of thread_stacks say.
pub mod ListedEndings
pub mod LiveStacks
pub mod Places
pub mod Stacks
pub mod StackAnswers
pub mod StackChanges
pub mod StackParts
