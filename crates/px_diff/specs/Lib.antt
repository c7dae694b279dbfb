-- The files of definitions and laws.
pub mod Firsts
pub mod Gathering
pub mod MacroOpen
pub mod Macros
pub mod Models
pub mod Outcomes
pub mod Pushes
pub mod Reordered
pub mod Requests
pub mod RowQuestions
pub mod Stacks
