-- What an auditor must believe of the rewriting to its end (T19 to T25 of the specification).
pub mod answers
pub mod Traces
