-- What is shown on the way to the law.
pub mod Targets
pub mod Lines
pub mod Commands
pub mod Errands
pub mod Building
pub mod Law
