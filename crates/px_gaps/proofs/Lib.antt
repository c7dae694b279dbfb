-- The files of lemmas.
pub mod Grows
mod Regaps
pub mod ClosedLists
pub mod GapLists
pub mod GapAtoms
pub mod AddableLaws
pub mod KnownSteps
pub mod Limits
pub mod GapLemmas
pub mod Choosing
pub mod SortedChoices
mod FormLemmas
pub mod Describing
mod Parting
mod PartLemmas
mod ChoiceLemmas
pub mod Proving
pub mod FactLemmas
mod FactRange
pub mod Ordered
pub mod Below
mod ShapeCounts
mod ListBounds
mod AtomBounds
mod UseBounds
mod BoundLoops
mod Apartness
mod AtomsBound
pub mod Singles
pub mod Substituting
