-- The files of definitions and laws.
pub mod Settings
pub mod Answers
pub mod Limits
pub mod Gaps
pub mod GapOrder
pub mod Determined
pub mod ShapeOrder
pub mod FewerShapes
pub mod FirstOfEach
pub mod FewerFacts
pub mod Rows
pub mod Decided
