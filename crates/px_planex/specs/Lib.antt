-- The files of definitions and laws.
pub mod Execution
pub mod Executors
pub mod Existing
pub mod Guards
pub mod Progress
pub mod Turns
pub mod RunTraces
pub mod WorkedRuns
