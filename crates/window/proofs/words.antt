-- What the proofs of the module `words` share.
pub mod Orders
