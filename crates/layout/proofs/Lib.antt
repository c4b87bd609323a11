pub mod NumberLaws
pub mod PlaceLaws
pub mod ReadingLaws
pub mod AnswerLaws
pub mod SettledLaws
pub mod NestLaws
pub mod Proved
