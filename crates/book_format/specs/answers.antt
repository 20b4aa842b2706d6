-- What the calls answer, in the document's terms (G17 of the specification), one type a file, with the answer that a result
-- of the code stands for. A refusal is a number here.
pub mod Opened
pub mod Preset
