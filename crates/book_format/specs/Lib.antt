-- What an auditor must believe of the preset book (section B of the specification). Definitions and nothing else:
-- the laws are in proofs/.
pub mod Books
pub mod Records
pub mod answers
pub mod Calls
pub mod Conversion
