-- What the proofs of the module `stripping` share.
pub mod Turns
