-- What the passes over a class file know and answer.
pub mod Answers
pub mod Attributes
pub mod CodeRules
pub mod Codes
pub mod Entries
pub mod FlagRules
pub mod KnownPools
pub mod MemberKeys
pub mod MethodCodes
pub mod MethodDescriptors
pub mod Order
pub mod Paths
pub mod SeenTexts
pub mod Texts
pub mod Walks
