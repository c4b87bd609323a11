pub mod Calls
pub mod Forms
pub mod CallsLaws
pub mod TurnLaws
pub mod FormLaws
pub mod SettledLaws
