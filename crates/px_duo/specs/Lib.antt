-- The files of definitions and laws.
pub mod Duos
pub mod DuoValue
pub mod DuoLaws
pub mod Alone
pub mod Slips
pub mod Sparing
