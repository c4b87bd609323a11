pub mod RowLaws
pub mod RowTrials
