-- What the proofs of the module `writing` share.
pub mod AppendChecks
pub mod Appended
