pub mod Jobs
pub mod Machine
pub mod Claims
pub mod Worked
pub mod Premises
