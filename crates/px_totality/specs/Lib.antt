-- The files of definitions and laws.
pub mod Finite
pub mod SearchEnds
pub mod WeightNone
pub mod FoundTables
pub mod RunsEnd
