pub mod Lists
pub mod Chains
pub mod TallyLists
pub mod Claims
pub mod History
pub mod TrailClaims
pub mod TallyClaims
pub mod ToldClaims
