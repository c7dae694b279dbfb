-- The files of lemmas.
pub mod GoalSteps
pub mod OpenSteps
pub mod PlanSteps
pub mod Replaying
pub mod ReplaySteps
pub mod RowSteps
