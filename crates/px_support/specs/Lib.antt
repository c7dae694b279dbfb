-- The files of definitions and laws.
pub mod Sources
pub mod Asking
pub mod Going
pub mod Grafted
pub mod MacroSteps
pub mod MadeSupports
pub mod FoundMoves
