-- What the proofs of the module `length` share.
pub mod Sums
pub mod SizeSets
pub mod OnePass
pub mod Behind
