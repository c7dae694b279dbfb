-- The files of lemmas.
pub mod AnswerLemmas
pub mod Carried
pub mod CheckLemmas
pub mod CountLemmas
pub mod DemoLemmas
pub mod OneCheckText
pub mod OneText
pub mod OutcomeLemmas
pub mod Prefixes
pub mod Rooms
