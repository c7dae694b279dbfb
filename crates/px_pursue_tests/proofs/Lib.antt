-- The files of lemmas.
pub mod Alike
