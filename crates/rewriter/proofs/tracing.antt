-- What the proofs of the module `tracing` share.
pub mod Making
