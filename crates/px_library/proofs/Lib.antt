-- The files of lemmas.
pub mod Finding
