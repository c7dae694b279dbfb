-- The files of lemmas.
pub mod IndexLemmas
pub mod ModelLemmas
pub mod OperatorLemmas
pub mod PlaceLemmas
