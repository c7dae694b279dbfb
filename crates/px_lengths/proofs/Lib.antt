-- The files of lemmas.
mod Sizes
mod Parts
mod Places
mod Rows
mod Facts
mod TableTexts
mod CertificateTexts
mod RunTexts
mod TreeMoves
mod SmallTables
mod Pursued
mod Replies
pub mod Transcripts
