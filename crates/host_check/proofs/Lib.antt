-- Lemmas on the numbers that a host's calls draw.
pub mod NumbersOfCalls
