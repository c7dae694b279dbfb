-- The files of lemmas.
pub mod EditLaws
pub mod GuardLaws
