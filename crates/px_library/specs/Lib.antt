-- The files of definitions and laws.
pub mod Libraries
