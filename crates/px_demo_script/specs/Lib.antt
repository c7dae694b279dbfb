-- The file of definitions.
pub mod Value
