-- The files of definitions.
pub mod ReadBack
