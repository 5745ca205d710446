-- Lemmas on the words, lines and numbers of scripts, and on what they say.
mod CappedNumbers
mod LinesInTurn
mod OptionsInTurn
mod WordsInTurn
