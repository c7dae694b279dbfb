-- The files of definitions and laws.
pub mod Searches
pub mod Pursuits
pub mod PursuitLaws
pub mod Seeking
