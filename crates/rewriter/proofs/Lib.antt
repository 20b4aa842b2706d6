-- What the proofs of the calls in src/lib.rt use. The laws about a module lie in its folder.
pub mod Rewrites
pub mod RewritingToEnd
