-- The files of lemmas.
mod AnswerRowLaws
pub mod JoinSteps
mod LeftAdds
mod LeftSteps
pub mod RowTurns
pub mod RowSteps
pub mod PartialLemmas
mod FewLaws
mod Covering
pub mod Slices
pub mod ParameterLemmas
mod MatchLemmas
mod AddedLemmas
pub mod RestLaws
pub mod DecidingLaws
mod DecidingSteps
pub mod PlainLaws
pub mod OpenNeeds
