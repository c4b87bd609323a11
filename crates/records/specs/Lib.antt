pub mod Records
pub mod RecordLaws
pub mod WordLaws
pub mod SeenLaws
pub mod GroupLaws
