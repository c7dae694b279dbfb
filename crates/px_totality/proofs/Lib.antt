-- The files of lemmas.
pub mod FiniteLaws
pub mod Least
pub mod NextStep
pub mod FiniteEntries
pub mod SomeEnd
pub mod TreesExist
pub mod FromBreadth
pub mod WeightNone
pub mod AnswerRows
pub mod Sources
pub mod MacroRows
pub mod MadeTables
pub mod EndingRuns
