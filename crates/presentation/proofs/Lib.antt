-- The laws of reductions and of the rules as a presentation, in the order in which they rest on each other.
pub mod Entries
pub mod Reducing
pub mod Ending
pub mod Confluence
pub mod Normalized
pub mod Sides
pub mod Distinct
pub mod Counting
pub mod Complete
pub mod Only
pub mod Exactly
pub mod Presentations
pub mod OneRewrite
pub mod Sentences
pub mod WrongLists
