-- The files of definitions and laws.
pub mod Matching
pub mod MatcherValue
pub mod WorkedDanger
pub mod Asking
pub mod Filling
pub mod Seeking
pub mod Reasons
pub mod Turns
pub mod Keeping
