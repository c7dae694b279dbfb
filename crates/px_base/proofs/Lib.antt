-- The files of lemmas.
pub mod Loops
