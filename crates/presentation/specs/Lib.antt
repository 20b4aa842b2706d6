-- What an auditor must believe of the theorem that the rules are the one complete normalized presentation (section U
-- of the specification). Definitions and nothing else: the laws are in proofs/.
pub mod Reductions
pub mod Presentations
