-- What an auditor must believe of the delay table (section Y of the specification). Definitions and nothing else:
-- the laws are in proofs/.
pub mod AllWindows
pub mod Distribution
pub mod Longest
pub mod answers
pub mod Calls
