-- What the first line of a text is, and what follows it.
mod LinesInTurn
