pub mod Checks
pub mod Lists
pub mod Reasons
pub mod Times
