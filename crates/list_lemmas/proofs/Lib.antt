-- Lemmas on std's words that several crates cite.
pub mod AnswersTold
pub mod EndsOfLists
pub mod FirstByTest
pub mod FoundItems
pub mod ItemByItem
pub mod ItemsByPlace
pub mod ItemsOfLists
pub mod ItemsRead
pub mod ItemsThatPass
pub mod LastItems
pub mod TestsAndOrders
