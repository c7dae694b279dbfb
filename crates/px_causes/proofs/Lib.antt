-- The files of lemmas.
pub mod Common
pub mod LineTests
pub mod PartTests
pub mod Twice
pub mod FirstLimits
pub mod Late
pub mod Pairs
pub mod AtomTests
