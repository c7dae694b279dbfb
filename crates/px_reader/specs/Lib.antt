-- The files of definitions.
pub mod LineReads
pub mod Common
