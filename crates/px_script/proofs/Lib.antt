-- what the proofs cite of the lower crates
pub mod Common
-- lists of names, lexemes and forms
pub mod Lists
pub mod Lexing
pub mod Forms
-- the table of the words, and the reader by it
pub mod Rows
pub mod ReadRows
-- lines without a fault, and what they keep
pub mod Faultless
pub mod Problems
pub mod Commands
pub mod Buildings
pub mod Atoms
pub mod KeptLines
pub mod KeptTables
pub mod Kept
-- the law of one reading
pub mod Law
-- worked lines and texts
pub mod Computed
