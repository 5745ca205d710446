-- What is known of the interfaces that a stub keeps.
mod EachOnce
mod KeptOfAWalk
mod TheStub
