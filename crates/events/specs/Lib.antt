pub mod Judged
pub mod EventLaws
