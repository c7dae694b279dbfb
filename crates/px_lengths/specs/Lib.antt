-- The files of definitions and laws.
pub mod Longest
pub mod Bounded
