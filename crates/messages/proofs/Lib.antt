-- The laws that the proofs of the messages share.
pub mod Texts
