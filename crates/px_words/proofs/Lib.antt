-- The files of lemmas.
pub mod Decimals
pub mod Ranges
pub mod ReadingLemmas
pub mod WorkedOut
