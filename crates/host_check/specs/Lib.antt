-- What the helpers of the tests promise.
pub mod DrawnNumbers
