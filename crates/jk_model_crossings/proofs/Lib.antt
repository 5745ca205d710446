-- The derivations of the worked examples and of the law, and what examples of crates above need.
pub mod ExampleSegments
mod OneRefusal
