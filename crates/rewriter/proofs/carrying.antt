-- What the proofs of the module `carrying` share.
pub mod Noting
pub mod Shifting
pub mod CarriedSteps
pub mod Passing
pub mod Inserting
