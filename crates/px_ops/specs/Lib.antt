-- The files of definitions and laws.
pub mod KeepLaws
pub mod Keeping
pub mod ModelLaws
pub mod ModelValue
pub mod Models
