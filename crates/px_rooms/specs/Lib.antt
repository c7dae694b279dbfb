-- The files of definitions and laws.
pub mod Domain
pub mod States
pub mod Looking
pub mod Added
pub mod RobotCounts
pub mod Changes
pub mod WorkedDomain
pub mod WorkedBuilding
pub mod Following
pub mod FactSets
