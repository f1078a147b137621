mod Found
mod Released
mod Levels
mod Ticks
pub mod Windows
mod Interference
mod Busy
pub mod Bounds
pub mod Answered
mod Places
pub mod Agreement
pub mod Keeps
mod Runs
mod Outrun
