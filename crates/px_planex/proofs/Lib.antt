-- The files of lemmas.
pub mod Alternating
pub mod Guarding
pub mod InAtoms
pub mod OneRun
pub mod OneTrace
mod Decided
mod FirstLists
mod Existing
pub mod Places
pub mod Progressing
pub mod TracedRuns
pub mod TurnBound
pub mod DangerRunning
pub mod Taking
mod Happening
