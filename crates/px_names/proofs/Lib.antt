-- The files of lemmas.
pub mod ListLemmas
pub mod PushLemmas
