-- Lemmas on the lines of a `resolver.txt`, on the names of class files, and on what lines bring in.
pub mod ClassesOfNames
mod LinesBringIn
mod LinesInTurn
mod NamesInTheIndex
mod NamesJudged
mod ReachedByImport
mod SystemNamesGiven
mod WhatLinesSay
