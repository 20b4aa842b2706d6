-- What an auditor must believe of shortest words and of steps that are dropped or allowed (sections X, F, S and A
-- of the specification). Definitions and nothing else: the laws are in proofs/.
pub mod OneLetter
pub mod Descents
pub mod Fallback
pub mod Allowed
pub mod Split
pub mod Between
pub mod answers
pub mod Calls
pub mod SplitCalls
pub mod BetweenCalls
