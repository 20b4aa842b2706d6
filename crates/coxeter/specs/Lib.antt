-- What an auditor must believe of the window layer (sections K, W, O, E, L, N, V, C and I of the specification).
-- Definitions and nothing else: the laws are in proofs/.
pub mod Kinds
pub mod Windows
pub mod Length
pub mod Dictionary
pub mod Relations
pub mod Checks
pub mod Parity
pub mod NormalForm
pub mod Refusals
pub mod answers
pub mod Calls
