-- What the proofs of the module `steps` share.
pub mod Descents
