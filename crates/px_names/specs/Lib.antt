-- The files of definitions and laws.
pub mod Lists
pub mod Name
pub mod NameLaws
