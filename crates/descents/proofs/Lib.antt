-- What the calls in src/lib.rt share. The laws about a module lie in its folder.
pub mod Fallbacks
pub mod Answers
