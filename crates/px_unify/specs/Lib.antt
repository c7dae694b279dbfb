-- The files of definitions and laws.
pub mod ChangeLaws
pub mod Changes
