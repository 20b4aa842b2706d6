-- What an auditor must believe of the calls for C beyond the layers below (section IC of the specification).
-- Definitions and nothing else: the laws are in proofs/.
pub mod Calls
pub mod Shortest
