-- The files of lemmas.
pub mod Steps
pub mod Texts
pub mod WorkedOut
pub mod Lengths
