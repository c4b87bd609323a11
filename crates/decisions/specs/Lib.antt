pub mod Decisions
pub mod Facts
pub mod FactLaws
pub mod DecisionLaws
pub mod Seen
