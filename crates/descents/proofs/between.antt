-- What the proofs of the module `between` share.
pub mod Leading
