-- The files of definitions.
pub mod Tokens
pub mod ItemViews
pub mod LineViews
pub mod Common
