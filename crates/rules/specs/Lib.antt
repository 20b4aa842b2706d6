-- What an auditor must believe of the rewriter layer (sections R and T of the specification, T1 to T18).
pub mod Rules
pub mod Calls
pub mod Runs
pub mod Demand3
