-- Lemmas for tests.
mod FirstStatics
mod FirstWorld
