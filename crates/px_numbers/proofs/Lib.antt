-- The files of lemmas.
pub mod Equality
pub mod NodewiseLaws
pub mod NumberSteps
