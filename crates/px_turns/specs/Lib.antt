-- The files of definitions and laws.
pub mod Told
pub mod Turning
pub mod Vain
