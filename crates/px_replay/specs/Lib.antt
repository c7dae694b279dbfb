-- The files of definitions and laws.
pub mod FreshOf
pub mod FreshVariables
pub mod Opened
pub mod Replay
pub mod Replaying
