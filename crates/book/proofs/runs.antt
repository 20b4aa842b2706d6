-- What the proofs of the module `runs` share.
pub mod StoredRuns
