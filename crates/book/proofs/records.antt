-- What the proofs of the module `records` share.
pub mod KindNumbers
pub mod CheckedRecords
