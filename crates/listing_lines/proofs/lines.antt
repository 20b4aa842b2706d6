-- What the proofs of the module `lines` share.
pub mod Lines
