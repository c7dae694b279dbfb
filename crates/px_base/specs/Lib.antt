-- The files of definitions and laws.
pub mod Answers
pub mod Bounds
pub mod Counting
pub mod formers
pub mod ListLaws
pub mod Sets
pub mod SetLaws
