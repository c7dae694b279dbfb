-- The files of lemmas.
pub mod Choosing
pub mod DecidingLaws
pub mod Prefixes
pub mod KeptSteps
pub mod KernelSteps
pub mod Layers
pub mod LeafSteps
pub mod Loops
pub mod PrefixSteps
pub mod RowSteps
pub mod SortSteps
