-- What the proofs of the module `writing` share.
pub mod Words
