pub mod NumberRows
pub mod Objects
pub mod OwnStates
pub mod ValueTypes
