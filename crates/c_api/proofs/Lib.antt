-- The laws that the proofs of the calls for C share.
pub mod Lengths
pub mod Bytes
pub mod Lists
pub mod Outcomes
pub mod Verdicts
pub mod SplitNumbers
pub mod StepNumbers
pub mod TableNumbers
pub mod Unchanged
pub mod Demand3
pub mod NumbersExactly
pub mod Sentences
pub mod Vectors
pub mod CallVectors
