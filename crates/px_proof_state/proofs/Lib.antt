-- The files of lemmas.
pub mod AncestorRange
pub mod ApartLemmas
pub mod AxiomRange
pub mod BeginningLemmas
pub mod FactPlaces
pub mod Hanging
pub mod Literals
pub mod NewVariables
pub mod Opening
pub mod PlaceRange
pub mod Trying
