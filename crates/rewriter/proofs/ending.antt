-- What the proofs of the module `ending` share.
pub mod Ends
pub mod BlockEnds
pub mod Rising
