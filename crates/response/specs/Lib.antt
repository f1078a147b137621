pub mod Tests
pub mod Laws
pub mod Worked
pub mod Blocking
pub mod Demand
pub mod Jobs
