-- The files of lemmas.
pub mod MoveLaws
pub mod Exclusion
pub mod ByStop
pub mod MadeOne
pub mod Smallest
pub mod Operators
pub mod ByValueLaws
pub mod AtStart
pub mod Fitting
pub mod PickCounts
pub mod WorkedByValue
