-- What the proofs of the module `windows` share.
pub mod Marks
