-- Laws about the loops of the module `longest`, and about what its functions make of each other's results.
pub mod Entries
