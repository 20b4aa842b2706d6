-- What the proofs of the module `walk` share.
pub mod Walking
pub mod Deciding
