-- The files of definitions and laws.
pub mod General
pub mod Limits
pub mod Naming
pub mod Replayed
pub mod WorkedGeneral
