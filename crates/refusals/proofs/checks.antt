-- What the proofs of the modules `checks` and `windows` share.
pub mod Tests
