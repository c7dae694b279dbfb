-- The files of definitions and laws.
pub mod Tasks
pub mod Order
pub mod Moves
pub mod Ends
pub mod Made
pub mod Determined
pub mod WorkedEnds
pub mod Lacks
pub mod ByValue
pub mod ValueLaws
pub mod WorkedValues
pub mod Trees
