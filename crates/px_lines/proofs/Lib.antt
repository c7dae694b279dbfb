-- The files of lemmas.
pub mod Common
-- characters and tokens
pub mod Texts
pub mod Numbers
pub mod Scans
-- what is read of a text
pub mod Walks
pub mod Parameters
pub mod RowProofs
-- lines by their rows
pub mod RowTable
pub mod Ones
pub mod Views
pub mod Made
pub mod FormedLines
