pub mod Bit
pub mod All
pub mod BitLaws
pub mod AllLaws
pub mod OnesLaws
pub mod LoopLaws
pub mod WordsLaws
