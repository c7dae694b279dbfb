-- The files of lemmas.
pub mod RowSums
