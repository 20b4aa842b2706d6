-- The proofs of the two tables; what the wrong routers answer, with the table of the inputs that tell them from the
-- calls; what a call may not hand back; and wrong definitions, with the laws that rule them out.
pub mod Examples
pub mod WrongChecks
pub mod WrongWindows
pub mod WrongRewrites
pub mod WrongTraces
pub mod WrongTables
pub mod WrongBooks
pub mod WrongMessages
pub mod WrongShortest
pub mod WrongSplits
pub mod WrongAnswers
pub mod WrongRouters
pub mod HandedBack
pub mod WrongDefinitions
pub mod WrongDefinitionsAbove
pub mod WrongDefinitionsFurther
