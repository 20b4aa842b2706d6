-- Laws about the loops of the module `counting`, and about what its functions make of each other's results.
pub mod Filling
pub mod Loops
pub mod Factors
pub mod Levels
