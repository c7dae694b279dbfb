-- The files of definitions.
pub mod SoFarViews
pub mod Readable
pub mod LineVariables
pub mod Heights
pub mod Problems
pub mod Common
