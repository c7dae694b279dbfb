-- The files of lemmas.
pub mod Whose
pub mod Outcomes
pub mod Deciding
pub mod Readying
mod Existing
mod Feeling
mod Slipping
mod Sparing
mod Reaching
pub mod Stepping
