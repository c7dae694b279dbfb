-- The files of lemmas.
pub mod Common
pub mod Facts
pub mod GoalCommands
pub mod Right
pub mod MoreNames
pub mod Sorting
pub mod Fresh
pub mod TableLines
