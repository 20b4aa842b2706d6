-- What the proofs of the module `shown` share.
pub mod Fronts
