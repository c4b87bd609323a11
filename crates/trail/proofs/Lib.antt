pub mod FeedingLaws
pub mod BufferLaws
pub mod MarkedLaws
pub mod Proved
