-- Lemmas on what is fed to a hasher.
pub mod FedInTurn
pub mod BytesOfUnits
