-- What the proofs of the module `splitting` share.
pub mod Halves
