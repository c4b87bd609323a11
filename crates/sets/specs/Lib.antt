pub mod Sets
pub mod Numbers
pub mod WordLaws
pub mod WalkLaws
pub mod SetLaws
pub mod NumbersLaws
