-- What the proofs of the module `forms` share.
pub mod Rooms
