-- The files of definitions and laws.
pub mod Errands
pub mod Limits
pub mod Script
pub mod Worked
