pub mod RoundTrips
pub mod Forests
pub mod Orders
pub mod Stages
pub mod Walks
