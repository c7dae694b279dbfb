-- The files of lemmas.
pub mod Each
pub mod Grafts
pub mod Inside
pub mod Made
pub mod Parts
pub mod Steps
pub mod Uses
