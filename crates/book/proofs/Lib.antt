-- What the proofs of several modules share.
pub mod Results
