-- The files of lemmas.
pub mod Common
pub mod TableVariables
pub mod VariableNames
pub mod ProofHeights
pub mod TableEnds
pub mod AtomTests
pub mod ProblemLemmas
pub mod Carried
