-- What the calls in src/lib.rt share, and what the crates above share with a module. The other laws about a module
-- lie in its folder.
pub mod ByteSteps
pub mod HandedOn
pub mod KindCases
pub mod BetterWords
pub mod Squares
