-- The files of lemmas.
pub mod Common
pub mod LineLemmas
pub mod LineSteps
pub mod Outcomes
pub mod Finishing
