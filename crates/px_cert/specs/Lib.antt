-- The files of definitions and laws.
pub mod CertificateClaims
pub mod Certificates
pub mod ClaimRanges
pub mod Drafts
pub mod Limits
pub mod Lines
pub mod Reading
pub mod Sound
pub mod Worked
