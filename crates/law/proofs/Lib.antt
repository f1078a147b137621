mod Faults
pub mod Runs
mod Holding
mod Laws
mod Searched
mod Accepted
mod Advancing
mod Lasting
mod Failing
mod Reading
mod Cheapest
pub mod Kept
