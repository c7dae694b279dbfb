-- The files of definitions and laws.
pub mod Causes
pub mod Reading
pub mod Writing
pub mod Memory
pub mod Standard
