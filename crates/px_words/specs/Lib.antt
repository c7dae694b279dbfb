-- The files of definitions and laws.
pub mod Numbers
pub mod Orders
pub mod Reading
pub mod Worked
