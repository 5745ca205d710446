-- Lemmas on texts, members, entries and codes, on the spots that walks find, and on the order of the rules.
mod AllItems
mod ArraysByFacts
mod AttributesReadEach
mod ClassNameByParts
mod CodeIsJudged
mod CodesReadEach
mod ConstantsByFacts
pub mod Decisions
mod DescriptorForms
mod EarlierItems
mod FactsOfTexts
pub mod FirstItems
mod FirstOfAll
mod FlagsReadEach
mod FloatsReadEach
mod KnownByUnits
pub mod KnownEntries
pub mod KnownTexts
pub mod LeastSpots
mod MethodHasOneCode
mod MethodTypes
mod MethodsByFlags
mod NameForms
mod NameOfThePath
mod NamesakesByKeys
mod NeededKinds
mod OneText
mod PlacesMarked
mod PlacesWithin
mod PrefixByUnits
mod ReferenceTypes
mod RepeatsByKeys
mod RulesReadEach
mod SomeItem
mod TextsAreLong
mod TextsSoFar
mod TwoItems
mod WritableParts
