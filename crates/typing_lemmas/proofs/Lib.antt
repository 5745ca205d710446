-- Lemmas on the definitions of jk_model_typing that several crates cite.
pub mod LocalsStored
pub mod OneScope
pub mod TypesOfValues
