-- Lemmas on the rules on what references find: methods, entries, members, and final methods that are overridden.
mod ClosedClasses
mod FinalByLinks
mod FinalsAbove
mod FinalsMet
mod FinalsOfAClass
mod FirstPlaces
mod MadeByLinks
mod MetByKeys
mod MethodsByRecord
mod MissingByLinks
mod RefusedByLinks
mod ToldByOperands
mod WrongByLinks
