-- Lemmas on the events of scripts and of the demo, on how they go on, and on how runs end.
pub mod EventsOfScripts
pub mod DemoEnds
pub mod DemoFits
pub mod DomainOpens
pub mod EventsInTurn
pub mod EventsPrinted
pub mod MessageTexts
pub mod RunEndsSo
pub mod RunsGoOn
pub mod WordsUntaken
