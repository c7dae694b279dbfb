-- The files of definitions and laws.
pub mod Worlds
pub mod AtomWorldValue
pub mod WorkedGuard
