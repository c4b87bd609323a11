pub mod Judged
pub mod FlowLaws
