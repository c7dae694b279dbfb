-- The files of lemmas.
pub mod DeterminedLaws
pub mod FewerFactsLaws
pub mod FirstLaws
pub mod FirstOfEachLaws
pub mod GapOrderLaws
pub mod RowLaws
pub mod DecidedLaws
pub mod FirstShapes
pub mod Listed
pub mod ListedProofs
