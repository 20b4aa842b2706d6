-- What the proofs of the module `pieces` share.
pub mod HeldRuns
pub mod Filling
