pub mod Meaning
pub mod Held
pub mod Obey
pub mod Runs
pub mod Law
pub mod Worked
