-- The files of lemmas.
mod StackLaws
mod SameInstance
mod Gathered
pub mod Opening
mod EntryLemmas
mod RowLemmas
mod PrefixLemmas
mod MacroLemmas
mod PrefixMacros
mod RowAnswerLemmas
mod RowSplitting
mod FittingLemmas
mod GatherLemmas
mod SortedLemmas
mod WholeLemmas
mod FirstOrder
mod FirstLemmas
mod Reordering
mod RestOpening
mod ModelLaws
mod MacroOpen
