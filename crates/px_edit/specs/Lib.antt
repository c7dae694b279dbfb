-- The files of definitions and laws.
pub mod EditCauses
pub mod EditClaims
pub mod Editing
pub mod Keeping
pub mod Parts
pub mod Refusals
pub mod WorkedEdits
