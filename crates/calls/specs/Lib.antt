pub mod Request
pub mod Entered
pub mod Ends
pub mod Engines
