-- The files of lemmas.
pub mod Admitting
pub mod RunPlaces
pub mod Disturbed
pub mod Acting
pub mod Underway
pub mod Ending
pub mod Vain
