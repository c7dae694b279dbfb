-- The files of lemmas.
pub mod LawProofs
pub mod Worked
