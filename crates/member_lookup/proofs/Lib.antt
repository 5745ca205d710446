-- What is known of walks over classes, of records of methods, and of packages.
pub mod FirstOnWalk
pub mod OnePackage
pub mod RunnersOfAClass
pub mod WalksOfMethods
pub mod WalksUpwards
