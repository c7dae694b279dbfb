-- The files of definitions.
pub mod Checks
pub mod EarlyFaults
pub mod FaultViews
pub mod Common
