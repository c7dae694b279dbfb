-- The files of definitions and laws.
pub mod NumberLaws
pub mod Numbers
pub mod Nodewise
