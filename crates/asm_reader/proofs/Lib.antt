-- What the proofs of the functions cite.
pub mod CasesAreWrittenOnce
pub mod CasesRiseInTurn
pub mod CodeLines
pub mod FirstLineAndRest
pub mod HexDigitsMakeOneNumber
pub mod ItemsByKeyword
pub mod LinesInTurn
pub mod NoMnemonicIsALabel
pub mod NumbersAreWrittenOneWay
pub mod OneCount
pub mod OneItem
pub mod OneReading
pub mod OneSplitIntoWords
pub mod OneStatement
pub mod RowsAreFound
pub mod TextsAndNumbers
pub mod WhatALineBeginsWith
