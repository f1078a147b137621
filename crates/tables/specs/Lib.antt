pub mod Bits
pub mod Tables
pub mod Pairing
pub mod Examples
