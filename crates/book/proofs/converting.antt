-- What the proofs of the module `converting` share.
pub mod ConversionChecks
pub mod Conversions
