-- What the proofs of the module `action` share.
pub mod Actions
