-- What is shown on the way to the law.
pub mod Words
pub mod Written
pub mod Numbers
pub mod Lines
pub mod Fits
pub mod Parts
pub mod Clean
pub mod Between
pub mod Before
pub mod Block
pub mod Printed
pub mod Law
