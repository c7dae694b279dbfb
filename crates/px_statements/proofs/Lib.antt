-- The files of lemmas.
pub mod Common
pub mod Times
