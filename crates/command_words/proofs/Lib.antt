-- Lemmas on the words of the command and on what they call for.
mod CalledFor
mod PlainWords
mod TakenWords
