pub mod Buffers
pub mod Claims
pub mod Feeding
pub mod Lines
pub mod Marked
pub mod Script
