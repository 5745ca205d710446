pub mod Answers
pub mod DomainEnds
pub mod Examples
pub mod Passages
pub mod RemoteCalls
pub mod Requests
pub mod Throwing
