-- The files of definitions and laws.
pub mod AnswerRows
pub mod Deciding
pub mod Decisions
pub mod Entries
pub mod Few
pub mod Instances
pub mod Joined
pub mod Learned
pub mod Parameters
pub mod Plain
pub mod Rest
pub mod Unlimited
