pub mod Numbers
pub mod Sets
pub mod Faults
pub mod Buffers
pub mod Tasks
pub mod Timing
pub mod Lists
