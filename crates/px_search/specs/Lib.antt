-- The files of definitions and laws.
pub mod Asking
pub mod Estimating
pub mod Going
pub mod Looping
pub mod Cache
pub mod Offers
pub mod CurrentModels
pub mod Searching
pub mod Steps
pub mod Picking
pub mod Planned
pub mod WorkedTrees
