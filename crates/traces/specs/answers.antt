-- What the call answers, in the document's terms (G17 of the specification), with the answer that a result
-- of the code stands for. A refusal is a number here.
pub mod ToEnd
