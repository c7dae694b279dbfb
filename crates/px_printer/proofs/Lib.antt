-- The files of lemmas.
pub mod BlockLemmas
pub mod WorkedOut
