-- The files of definitions and laws.
pub mod Addable
pub mod Apart
pub mod Bindings
pub mod Bounds
pub mod ByAtoms
pub mod Choices
pub mod Closings
pub mod Concluding
pub mod Described
pub mod Forms
pub mod GapAnswers
pub mod Known
pub mod Listed
pub mod Needs
pub mod Outcomes
pub mod Provable
pub mod Questions
