-- Lemmas for the worked example.
mod FirstNames
