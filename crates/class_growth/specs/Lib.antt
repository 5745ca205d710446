-- What is kept of classes, types, frames and values where more classes are put behind them, or where classes get other links.
pub mod ClassesKept
pub mod ClosedClasses
pub mod DomainsKept
pub mod OtherLinks
pub mod ScopesOver
pub mod TypesKept
pub mod TypingsKept
