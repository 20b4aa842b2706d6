-- What the proofs of the module `normal` share.
pub mod Blocks
pub mod StoredPlaces
pub mod OneLevel
pub mod OneCall
pub mod LeftPositions
pub mod Signs
pub mod PeeledForms
pub mod FirstLevel
