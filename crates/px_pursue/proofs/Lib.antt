-- The files of lemmas.
pub mod FoundTables
pub mod SearchLaws
pub mod Fitting
pub mod Few
pub mod Below
pub mod Short
pub mod Reaching
pub mod One
pub mod VainSearches
pub mod Searched
