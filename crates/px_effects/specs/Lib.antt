-- The files of definitions.
pub mod Roles
pub mod FreshNames
pub mod Common
