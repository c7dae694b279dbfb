-- The files of definitions and laws.
pub mod Pending
pub mod Scope
pub mod Possible
pub mod Order
pub mod Search
pub mod Trail
pub mod Ends
pub mod GapAtoms
pub mod Values
pub mod OneList
