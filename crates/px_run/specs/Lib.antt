-- The files of definitions and laws.
pub mod Transcripts
pub mod Sums
pub mod Outcomes
pub mod Exits
pub mod Answers
pub mod Prefixes
pub mod Laws
pub mod Rooms
