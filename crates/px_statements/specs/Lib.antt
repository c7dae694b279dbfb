-- The files of definitions.
pub mod StatementViews
pub mod FactLines
pub mod Common
