pub mod Rounds
pub mod Reaching
pub mod Staging
pub mod Holds
