-- What the proofs of the module `product` share.
pub mod Entries
pub mod Scatter
