pub mod Fits
pub mod Scans
pub mod Runs
pub mod Moves
pub mod Trees
pub mod Naming
pub mod Matchers
pub mod Sets
pub mod Chains
pub mod Basics
pub mod Tables
mod LawWords
mod LawOpenings
mod LawBlanks
mod LawRuns
mod LawNames
mod LawArguments
mod LawWhite
mod LawSets
mod LawSound
mod LawPlaces
mod LawWhole
mod LawUnique
pub mod Spelling
mod LawCall
