-- The files of definitions and laws.
pub mod Notices
pub mod Texts
pub mod Rows
pub mod Blocks
pub mod Turns
pub mod DuoLines
pub mod PursuitEnds
pub mod Trees
pub mod Whys
pub mod Replies
pub mod Worked
pub mod NamedLaws
