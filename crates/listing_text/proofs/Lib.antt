-- The laws of the listing as text.
pub mod Decimals
pub mod Pieces
pub mod Room
pub mod Answered
pub mod Examples
pub mod Sentences
pub mod TextExactly
pub mod PiecesExactly
