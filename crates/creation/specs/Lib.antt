pub mod Judged
pub mod CreationLaws
