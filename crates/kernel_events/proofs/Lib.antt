-- The derivations of the laws.
pub mod NumbersOfEvents
pub mod PagesOfEndedDomains
