-- What the proofs of the module `search` share.
pub mod Searches
