-- What the private functions and the invariants of the types say, and the orders in which a domain's parts are listed.
pub mod Beginning
pub mod InOrder
pub mod KeptStates
pub mod Literals
pub mod MissingTexts
pub mod Parts
pub mod Statics
pub mod Texts
pub mod TextsAdded
