-- What the calls answer, in the document's terms (G17 of the specification), one type a file, with the answer that a result
-- of the code stands for. A refusal is a number here.
pub mod Answer
pub mod Lanes
pub mod Verdict
pub mod Choice
pub mod Counted
