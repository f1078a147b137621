pub mod Demand
pub mod Blocking
pub mod Jobs
pub mod Meaning
pub mod Table
