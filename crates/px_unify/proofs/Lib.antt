-- The files of lemmas.
pub mod Consistency
pub mod Lists
pub mod Narrowing
pub mod Slots
pub mod Solutions
