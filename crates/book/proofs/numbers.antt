-- What the proofs of the module `numbers` share.
pub mod Stores
