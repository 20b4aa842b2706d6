-- What the proofs of the module `presets` share.
pub mod PresetLines
