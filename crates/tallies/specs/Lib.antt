pub mod Entries
pub mod Counts
pub mod AskerLaws
pub mod CountLaws
