-- The files of definitions and laws.
pub mod Common
-- the definition of a script, in the order in which it reads
pub mod Lines
pub mod Lexemes
pub mod Items
pub mod Statements
pub mod Limits
pub mod Commands
pub mod Declarations
pub mod Forms
pub mod Stages
pub mod Causes
pub mod Faults
pub mod Content
pub mod Scripts
-- the scripts that were read, by their parts
pub mod ScriptParts
pub mod ReadScripts
-- what it says of small lines
pub mod WorkedLines
pub mod WorkedTables
pub mod WorkedThree
pub mod WorkedLater
pub mod Worked
-- what a script keeps
pub mod Ranges
pub mod RangeLaws
pub mod States
-- a line without a fault
pub mod Faultless
-- a plain reader: a scanner, a parser, and the table of the words
pub mod Scanning
pub mod Parsing
pub mod Rows
